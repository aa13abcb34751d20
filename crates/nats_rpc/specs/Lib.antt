pub mod Calls
pub mod Polling
pub mod Serving
