-- Steps by a schedule, with calls made again
pub mod Sweeps
pub mod Entries
pub mod Limits
