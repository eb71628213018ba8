pub mod Answered
pub mod Lines
pub mod Started
pub mod Sessions
pub mod Runs
pub mod Shared
