-- A session of machines that share a processor
pub mod Answering
pub mod Session
pub mod Starting
pub mod Runs
