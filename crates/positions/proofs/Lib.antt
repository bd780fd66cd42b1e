pub mod Worked
pub mod Numbers
pub mod Links
pub mod Long
pub mod Whole
pub mod Wavering
