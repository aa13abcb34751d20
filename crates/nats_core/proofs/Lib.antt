pub mod Cores
pub mod Dues
pub mod Journals
pub mod News
pub mod Plain
