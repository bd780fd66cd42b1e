pub mod Step
pub mod Planned
