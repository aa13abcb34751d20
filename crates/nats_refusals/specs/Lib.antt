pub mod Refusals
pub mod Kinds
pub mod Texts
pub mod Errors
