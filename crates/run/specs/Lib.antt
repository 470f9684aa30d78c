-- Definitions.
pub mod Lent
-- Laws.
pub mod FieldLaws
pub mod RunLaws
