mod Behind
mod Counts
