pub mod Risen
pub mod Asks
pub mod Inboxes
