pub mod Arguments
pub mod Faults
pub mod Interlocking
pub mod Mirroring
pub mod Moving
pub mod Output
