-- The accesses of a step on lent words
pub mod Accesses
