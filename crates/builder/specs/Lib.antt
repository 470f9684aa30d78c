-- Definitions.
pub mod Builds
-- Laws.
pub mod Laws
