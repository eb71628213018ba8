-- The theorems of order 13.
pub mod Listings
pub mod Schedules
pub mod Examples
