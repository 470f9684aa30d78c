pub mod Views
pub mod TableLaws
pub mod Laws
