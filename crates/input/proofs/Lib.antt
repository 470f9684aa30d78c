pub mod FromFn
pub mod StandingLaws
pub mod FilledSoFar
