pub mod PlanRoom
pub mod PrintedLaws
pub mod StandingLaws
