pub mod Reading
pub mod Writing
pub mod Pieces
pub mod Items
