pub mod Numbers
pub mod Rows
pub mod Slots
pub mod Pages
pub mod Lent
