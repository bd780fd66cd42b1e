pub mod SafeSomewhere
pub mod Wrong
