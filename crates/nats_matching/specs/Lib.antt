pub mod Code
pub mod Matching
