pub mod Buffer
pub mod Piece
pub mod Properties
