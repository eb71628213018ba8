pub mod Prefixes
pub mod Listed
pub mod Pieces
pub mod Runs
