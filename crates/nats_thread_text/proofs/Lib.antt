mod Sums
mod Turns
mod Right
