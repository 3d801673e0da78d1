pub mod Ordered
pub mod Pairs
pub mod Indexed
pub mod Earliest
