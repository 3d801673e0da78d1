pub mod Limits
pub mod Calls
pub mod Moments
pub mod Pacing
