pub mod Laws
pub mod Cap
