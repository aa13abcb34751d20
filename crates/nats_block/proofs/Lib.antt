pub mod Cuts
pub mod Folds
pub mod Reading
