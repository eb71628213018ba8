-- Laws that proofs cite
pub mod Lines
pub mod CallsMade
pub mod Files
pub mod Progressing
pub mod Whole
pub mod CallWords
pub mod Begins
