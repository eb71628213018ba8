-- Laws that the proofs of the functions cite, and what an argument is
pub mod Digits
pub mod Spelling
