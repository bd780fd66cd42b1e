pub mod Small
pub mod Classes
pub mod Spots
pub mod Decoded
pub mod Fitting
pub mod Singles
mod Doubling
pub mod Taken
pub mod Conditions
