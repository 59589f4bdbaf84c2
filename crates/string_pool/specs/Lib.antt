pub mod Pool
pub mod Pieces
