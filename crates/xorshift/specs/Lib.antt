-- Pseudo-random schedules
pub mod Xorshift
