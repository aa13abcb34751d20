pub mod Journal
pub mod Replies
pub mod Calls
pub mod Links
