-- Definitions.
pub mod Walk
-- Laws.
pub mod HeldLaws
pub mod ItemLaws
pub mod WalkLaws
pub mod NextLaws
