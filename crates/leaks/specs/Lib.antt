pub mod Guest
pub mod OtherView
pub mod Claims
