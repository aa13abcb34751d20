pub mod Clients
pub mod Cores
pub mod Meshes
