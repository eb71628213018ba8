-- Laws that the proofs of the functions cite: what a buffer holds after a text was put, tests and calls in loops, steps that run on, the branches of the listing, its answers.
pub mod Buffers
pub mod Tests
pub mod Running
pub mod Recursion
pub mod Answers
