-- Laws of the allowance in words
pub mod Held  -- what is stored is what is read
