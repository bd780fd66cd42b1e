pub mod Arithmetic
pub mod Brief
pub mod Word
