mod Kept
mod Literal
mod Merging
mod Remembered
