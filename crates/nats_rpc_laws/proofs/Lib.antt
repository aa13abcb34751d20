pub mod Attempts
pub mod Growing
pub mod Runs
pub mod Services
pub mod Tokens
