-- Definitions of the boundary to programs in C
pub mod Numbers
pub mod Requests
pub mod Sizes
pub mod Known
pub mod Machines
