pub mod Tallying
pub mod Waiting
pub mod Finishing
pub mod Late
pub mod Cloning
pub mod Inboxes
pub mod Asking
