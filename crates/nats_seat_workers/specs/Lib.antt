pub mod Errors
pub mod Publishing
