-- The card in a block of words
pub mod Layout
pub mod Cards
