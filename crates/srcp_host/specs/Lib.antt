pub mod Faults
pub mod Here
pub mod Hosting
pub mod Follows
pub mod Panels
pub mod Settled
