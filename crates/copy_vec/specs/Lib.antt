-- Definitions.
pub mod CopyVec
-- Laws.
pub mod Laws
