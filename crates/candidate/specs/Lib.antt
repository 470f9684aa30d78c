pub mod Store
pub mod Laws
pub mod Lengths
pub mod Lent
