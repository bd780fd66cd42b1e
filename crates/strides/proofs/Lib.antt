pub mod Parts
pub mod Standing
pub mod Reaching
pub mod Working
