pub mod Flow
