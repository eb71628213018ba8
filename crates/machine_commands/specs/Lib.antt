-- The lines of the program `machines`
pub mod Requests
pub mod Printing
