pub mod Limits
pub mod Text
pub mod Said
pub mod Tell
pub mod Read
pub mod Dataset
pub mod Laws
