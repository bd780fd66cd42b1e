pub mod Decode
pub mod Read
