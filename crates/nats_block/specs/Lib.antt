pub mod Answers
pub mod Block
pub mod Code
pub mod Fields
pub mod Head
pub mod Lines
