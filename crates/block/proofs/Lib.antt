-- What is proved of the parts of a block
pub mod Rooms
pub mod Fours
pub mod Gets
pub mod Standing
pub mod Puts
pub mod Fitting
