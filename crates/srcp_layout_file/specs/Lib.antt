pub mod Document
pub mod Faults
pub mod Gives
pub mod Limits
pub mod Member
pub mod Output
