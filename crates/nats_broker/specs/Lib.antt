pub mod Errors
pub mod Info
pub mod Laws
pub mod Peers
pub mod Playing
pub mod Routes
