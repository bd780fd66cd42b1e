pub mod Fetch
pub mod Read
