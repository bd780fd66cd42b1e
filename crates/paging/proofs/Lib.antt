pub mod Cases
pub mod Pages
