-- What is proved of the accesses of a helper, and of any access of a step, on lent words
pub mod Taken
pub mod Keeps
pub mod Begins
pub mod Notes
pub mod Writes
pub mod Performs
