pub mod Store
pub mod Lent
pub mod Walks
pub mod Held
