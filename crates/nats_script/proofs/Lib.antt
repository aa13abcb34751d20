mod Bare
mod Scripts
