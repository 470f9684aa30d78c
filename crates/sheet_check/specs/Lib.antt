pub mod Views
pub mod AnswerLaws
pub mod HeaderLaws
