mod Onces
mod Others
mod Picks
