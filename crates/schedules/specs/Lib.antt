-- Definitions of the program schedules
pub mod Progress
