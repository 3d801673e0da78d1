mod Lines
mod Sharing
pub mod CallsAreFair
