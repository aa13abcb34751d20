mod Items
mod Pieces
mod Quiet
mod Settling
