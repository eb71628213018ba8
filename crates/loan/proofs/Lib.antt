-- What is proved of the dictionaries in a loan
pub mod Tables
pub mod Held
pub mod Inserting
pub mod Spans
pub mod Runs
pub mod Sizes
pub mod Pauses
pub mod Revaluing
pub mod Kept
