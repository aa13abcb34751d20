pub mod Journal
pub mod Refusals
