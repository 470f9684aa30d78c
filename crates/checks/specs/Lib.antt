-- Definitions.
pub mod Answers
-- Laws.
pub mod AnswerLaws
pub mod RoomLaws
