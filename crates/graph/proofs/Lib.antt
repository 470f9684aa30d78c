pub mod StandingLaws
pub mod SetLaws
pub mod NeighborLaws
