mod Infos
pub mod Reading
pub mod Texts
