-- The definitions that the contracts of reports add to those of construction
pub mod Swaps
