-- Laws that the proofs of the functions cite
pub mod Altered
pub mod Answered
pub mod Printed
