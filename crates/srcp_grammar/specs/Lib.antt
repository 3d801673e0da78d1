pub mod Layout
pub mod Devices
pub mod Command
pub mod Grammar
pub mod Weight
