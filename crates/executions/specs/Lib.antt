pub mod Schedules
pub mod Listings
