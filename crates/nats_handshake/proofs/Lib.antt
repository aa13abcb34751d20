mod Courses
pub mod Heard
pub mod Hearing
pub mod Opening
mod Shakings
mod Tellings
