mod Examples
pub mod Checks
pub mod Documents
