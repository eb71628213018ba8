pub mod Rows
pub mod Taking
