-- The definitions that the contracts of programs add to those of construction
pub mod Fetching
pub mod Cells
