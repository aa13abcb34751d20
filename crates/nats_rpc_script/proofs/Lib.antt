mod Coming
mod Cuts
