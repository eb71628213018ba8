-- What is proved of words and values
pub mod Blocks
pub mod Values
pub mod Programs
pub mod Lines
