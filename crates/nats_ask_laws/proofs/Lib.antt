pub mod Asking
pub mod Settling
pub mod Given
pub mod Queues
pub mod Turns
