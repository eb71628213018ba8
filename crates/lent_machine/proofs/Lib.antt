-- What is proved of the accesses on lent words
pub mod Finishing
pub mod Own
pub mod Keeping
pub mod Gates
pub mod Announcements
