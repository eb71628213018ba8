-- Laws that the proofs of the functions cite, and those of the crates above
pub mod Arrays
pub mod Judged
