pub mod Conflicts
pub mod Laws
pub mod Plan
pub mod Runs
pub mod Stages
pub mod Steps
pub mod Trains
