-- What is proved of a card text in a block of words
pub mod Fitting
pub mod Clearing
pub mod Keeping
pub mod Defining
pub mod Opening
pub mod Contents
pub mod Loops
pub mod Theorems
