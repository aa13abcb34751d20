mod Letters
mod Pieces
