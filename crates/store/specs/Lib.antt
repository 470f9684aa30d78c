pub mod Counts
pub mod Memo
pub mod Estimates
pub mod Laws
