pub mod Pieces
pub mod Lengths
pub mod Whole
pub mod Following
