pub mod Back
pub mod Causes
pub mod Ended
pub mod Flow
pub mod State
pub mod Steps
