pub mod Guarded
pub mod Answers
pub mod Kept
pub mod Twins
