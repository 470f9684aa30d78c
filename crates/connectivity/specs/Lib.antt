-- The words of the contracts that the definition has no word for.
pub mod Crossed
pub mod Parted
