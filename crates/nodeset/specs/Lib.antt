pub mod Sets
pub mod Subsets
pub mod SetLaws
pub mod SubsetLaws
