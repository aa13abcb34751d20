pub mod Views
pub mod Finishing
pub mod Calls
pub mod Polling
pub mod Inboxes
