pub mod Done
pub mod Numbers
