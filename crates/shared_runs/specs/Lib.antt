-- Machines that share one processor, over lists of requests
pub mod Runs
