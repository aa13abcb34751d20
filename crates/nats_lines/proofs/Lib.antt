pub mod Fronts
pub mod Lines
mod Numbers
pub mod Pieces
mod Quotes
pub mod Reading
pub mod Scans
pub mod Seen
pub mod Words
