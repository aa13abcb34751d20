pub mod Empty
pub mod Entries
pub mod JsonBack
pub mod JsonFields
pub mod JsonValues
pub mod Laws
pub mod Texts
