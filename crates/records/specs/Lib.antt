pub mod Records
pub mod RecordLaws
pub mod Listed
pub mod ListedLaws
pub mod Entries
pub mod PlacesFit
pub mod Places
