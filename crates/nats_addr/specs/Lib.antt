pub mod Addr
pub mod Noted
pub mod Resolving
