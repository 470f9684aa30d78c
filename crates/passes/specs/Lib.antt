pub mod LeafSets
pub mod Passes
