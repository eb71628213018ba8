-- Laws that proofs cite
pub mod Lines
