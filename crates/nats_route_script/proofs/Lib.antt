mod Outputs
mod Scripts
