pub mod Counting
pub mod Rooms
pub mod Waiting
pub mod Settling
pub mod Inbox
