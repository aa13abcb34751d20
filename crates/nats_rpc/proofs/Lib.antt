pub mod Polls
pub mod Serving
pub mod Tokens
