pub mod Aside
pub mod Errors
pub mod Spawning
pub mod Still
pub mod System
