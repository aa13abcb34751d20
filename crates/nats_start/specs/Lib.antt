pub mod Pooling
pub mod Steps
