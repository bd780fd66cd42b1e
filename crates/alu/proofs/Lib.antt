pub mod Laws
pub mod Carries
pub mod Showing
pub mod Words
