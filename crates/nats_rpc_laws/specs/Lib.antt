pub mod Attempts
pub mod Runs
pub mod Services
pub mod Tokens
