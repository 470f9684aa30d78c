pub mod Floats
pub mod EdgeMet
pub mod RowRules
pub mod StandingLaws
