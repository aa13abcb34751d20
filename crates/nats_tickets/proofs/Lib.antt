pub mod Asks
pub mod Marks
pub mod Places
pub mod Rooms
pub mod Sorts
