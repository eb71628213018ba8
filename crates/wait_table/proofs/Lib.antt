-- Laws that the proofs of the functions cite
pub mod Tables
pub mod Formula
pub mod Texts
pub mod Statements
