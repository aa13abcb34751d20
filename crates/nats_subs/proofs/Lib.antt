pub mod Boxes
pub mod Counted
pub mod Deliveries
pub mod Ends
pub mod Noted
pub mod Pinged
