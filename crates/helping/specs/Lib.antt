-- The definitions that the contracts of helping add to those of construction
pub mod Numbers
