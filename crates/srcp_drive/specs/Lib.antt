pub mod Hearing
pub mod Engines
pub mod Settling
pub mod Orders
pub mod Desks
pub mod Laws
