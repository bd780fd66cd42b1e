pub mod Tracing
pub mod Sprinting
