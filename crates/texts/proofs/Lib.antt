-- What is proved of the texts of a block
pub mod Lines
pub mod Readings
