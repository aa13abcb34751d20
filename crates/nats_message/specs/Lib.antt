pub mod Content
pub mod Json
