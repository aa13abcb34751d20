pub mod Cuts
pub mod Numbering
mod Spelled
