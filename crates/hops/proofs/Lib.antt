pub mod Packed
pub mod Seeking
pub mod Swiftly
pub mod Onward
pub mod Rushing
