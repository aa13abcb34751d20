pub mod Begun
pub mod Places
pub mod Prefixes
pub mod Reading
pub mod Steps
pub mod Taken
