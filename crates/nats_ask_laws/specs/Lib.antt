pub mod Asked
pub mod Given
pub mod Settled
pub mod Laws
