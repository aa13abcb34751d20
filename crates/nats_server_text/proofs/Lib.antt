mod Blocks
mod Cuts
mod Headers
mod Hello
mod Lines
mod Told
