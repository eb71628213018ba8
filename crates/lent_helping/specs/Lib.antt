-- The accesses of a helper, and any access of a step, on lent words
pub mod Helps
pub mod Steps
