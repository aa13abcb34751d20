mod Fit
mod Growing
mod Waiting
