-- Definitions.
pub mod Limits
pub mod ReadBack
pub mod Rules
pub mod Stores
