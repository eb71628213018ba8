-- Laws that proofs cite
pub mod Judging
pub mod Telling
pub mod Stepped
pub mod Keeping
