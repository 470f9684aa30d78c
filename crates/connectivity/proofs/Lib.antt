-- Laws that only the proofs of this crate use.
pub mod Laws
pub mod CrossedLaws
pub mod PartedLaws
pub mod LeafLoops
pub mod StandingLaws
