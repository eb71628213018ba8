-- Definitions of the program sweep
pub mod Progress
