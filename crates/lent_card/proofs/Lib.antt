-- What is proved of the requests on lent words
pub mod Judging
pub mod Cards
pub mod Short
pub mod Rooms
