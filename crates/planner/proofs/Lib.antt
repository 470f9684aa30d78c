-- Laws.
pub mod ReadBackLaws
pub mod RuleLaws
pub mod CallLaws
pub mod LimitLaws
