-- The allowance in words of the caller
pub mod Words
pub mod Held
