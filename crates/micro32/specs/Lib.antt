pub mod Told
pub mod Boundary
