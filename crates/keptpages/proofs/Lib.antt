pub mod Settling
pub mod Holding
