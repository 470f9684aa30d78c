pub mod StandingLaws
pub mod Numbered
