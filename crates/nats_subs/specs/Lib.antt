pub mod Boxes
pub mod Delivery
pub mod Draining
pub mod Forgetting
