-- A card text opened into a block of words
pub mod Opened
