mod Lines
mod Right
mod Total
mod Turns
