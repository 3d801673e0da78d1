pub mod Early
pub mod Faults
pub mod Options
pub mod Silence
