mod Numbers
pub mod Keys
mod Tables
mod Building
mod Fresh
