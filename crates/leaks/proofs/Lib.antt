pub mod Worked
pub mod Maps
pub mod Secrets
pub mod OtherView
