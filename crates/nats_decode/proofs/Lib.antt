mod Ends
pub mod Sights
