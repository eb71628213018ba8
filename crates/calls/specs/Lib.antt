-- One call for each process
pub mod Tables
pub mod Texts
