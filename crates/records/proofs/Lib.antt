pub mod ReadLaws
mod PartLaws
pub mod StandingLaws
