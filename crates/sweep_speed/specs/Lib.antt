-- The run that is timed
pub mod Rounds
