pub mod Blocks
pub mod Code
pub mod Grammar
pub mod Law
pub mod Pieces
