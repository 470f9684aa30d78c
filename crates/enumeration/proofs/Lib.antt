pub mod SubsetPasses
pub mod SameWalk
pub mod Laws
pub mod HeldLaws
