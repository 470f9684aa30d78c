-- Definitions.
pub mod Joins
-- Laws.
pub mod Laws
pub mod JoinLaws
