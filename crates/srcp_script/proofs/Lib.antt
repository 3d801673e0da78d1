mod Examples
pub mod Cuts
pub mod Escapes
pub mod Prints
pub mod Scripts
