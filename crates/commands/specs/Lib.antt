pub mod Commands
pub mod CommandFields
pub mod Printing
