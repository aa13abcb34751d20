pub mod Router
pub mod Texts
