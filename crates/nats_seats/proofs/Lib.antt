pub mod Playing
pub mod Leaving
