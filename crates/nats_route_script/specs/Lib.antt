pub mod Output
pub mod Printed
pub mod Script
