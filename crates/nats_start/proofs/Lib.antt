pub mod Returned
mod Rounding
