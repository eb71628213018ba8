-- Words, and the values that they stand for
pub mod Types
pub mod Parts
pub mod Codes
