-- Cells taken and given back (document 02, order 9): chains of free cells, and hands.
pub mod Chains
pub mod Hands
pub mod Runs
pub mod Histories
