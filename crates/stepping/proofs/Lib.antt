-- Laws of the loops.
pub mod SetsLeft
pub mod Stepping
pub mod StandingLaws
