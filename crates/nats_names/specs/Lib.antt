pub mod Causes
pub mod Errors
pub mod Events
pub mod Names
pub mod Status
