pub mod Record
pub mod Replies
pub mod Paging
pub mod Commit
pub mod Act
pub mod Run
pub mod Audit
