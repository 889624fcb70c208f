pub mod Acknowledges
pub mod Grants
pub mod Replies
pub mod Takes
