-- A helper's simulation on its dictionary agrees with the sequential run (lines H1 to H30).
pub mod Effects
pub mod Sizes
pub mod Sequential
pub mod Dictionaries
pub mod Marks
pub mod Weights
pub mod Simulations
pub mod Resuming
