-- The definitions that the contracts cite
pub mod Cases
pub mod Comparing
pub mod Lines
