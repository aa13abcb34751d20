pub mod Began
pub mod Causes
pub mod Greets
pub mod Lines
pub mod Taking
pub mod Tries
