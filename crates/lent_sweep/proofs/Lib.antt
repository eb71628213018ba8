-- Laws that proofs cite
pub mod Steps
pub mod Schedules
pub mod Parts
pub mod Statements
pub mod Waits
pub mod Accepted
pub mod Limits
