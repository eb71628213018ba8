-- Definitions of the program steps_speed: the run that it times
pub mod Runs
