pub mod Greeting
pub mod Errors
pub mod Course
pub mod Credentials
pub mod Shaking
pub mod Heard
pub mod Opened
pub mod Following
