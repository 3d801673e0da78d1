mod Examples
pub mod ArgumentLaws
pub mod Mirrorings
pub mod Movings
pub mod Replays
pub mod Writings
