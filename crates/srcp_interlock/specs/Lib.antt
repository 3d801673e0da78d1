pub mod Orders
pub mod Hearing
pub mod Boxes
pub mod Laws
