pub mod Heads
pub mod Laws
pub mod Operations
pub mod Scan
