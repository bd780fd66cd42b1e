pub mod First
pub mod Rights
pub mod Held
pub mod Answers
