pub mod Length
pub mod Pieces
