pub mod Bytes
pub mod Shortcut
pub mod Forms
