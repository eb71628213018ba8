-- Laws that proofs cite
pub mod Drawing
