pub mod Law
pub mod Said
