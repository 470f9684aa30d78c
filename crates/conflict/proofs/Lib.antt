-- Laws that only the proofs of this crate use.
pub mod Cells
pub mod StandingLaws
