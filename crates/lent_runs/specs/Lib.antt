-- A block and a loan over lists of entries
pub mod Runs
pub mod Untouched
