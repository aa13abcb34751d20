pub mod Hearing
pub mod Once
pub mod Picking
