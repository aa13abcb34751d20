pub mod Changes
pub mod Numbers
pub mod Paging
pub mod Tables
pub mod Walks
