-- The text of the terms of machines that share a processor
pub mod Terms
