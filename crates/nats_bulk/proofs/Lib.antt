mod Messages
pub mod OneMore
mod Opening
mod Turns
