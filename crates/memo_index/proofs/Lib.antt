mod WalkLaws
pub mod IndexLaws
mod LookupLaws
pub mod KeptLaws
mod Samples
