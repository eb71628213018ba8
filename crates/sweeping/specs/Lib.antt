-- A sweep: its files, its pieces, its lines
pub mod Starting
pub mod Pieces
pub mod Printing
