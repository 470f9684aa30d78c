pub mod Text
pub mod Laws
pub mod TextLaws
pub mod ReadBack
pub mod Same
