pub mod View
pub mod Neighbors
pub mod Laws
