pub mod Demands
pub mod Hidden
pub mod OneReading
