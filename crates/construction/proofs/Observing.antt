-- Entries by cases, and that the history an observer keeps agrees with the invariant after every entry.
pub mod Entries
pub mod Outcomes
pub mod Histories
pub mod Tracking
pub mod Consistency
pub mod Growth
pub mod Runs
pub mod Operations
pub mod Texts
