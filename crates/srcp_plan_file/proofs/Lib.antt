pub mod Complete
pub mod Finding
pub mod Leading
pub mod Lists
pub mod Sharing
pub mod Whole
