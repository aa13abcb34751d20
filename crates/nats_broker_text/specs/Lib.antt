pub mod Commands
pub mod Connect
pub mod Laws
pub mod Lines
