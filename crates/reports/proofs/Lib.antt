-- Laws that proofs cite
pub mod Swaps
