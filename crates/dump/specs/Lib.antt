pub mod Binary
pub mod Dump
pub mod Reading
pub mod Judging
pub mod Inverse
pub mod Histories
pub mod Runs
