pub mod View
pub mod EndingLaws
pub mod SearchLaws
