pub mod Asked
pub mod Settings
pub mod Taken
