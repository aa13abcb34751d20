mod Connecting
pub mod Cuts
pub mod Fronts
pub mod Growing
pub mod Takes
