-- Laws of the boundary to programs in C, in reading order:
pub mod Told  -- numbers of refusals, numbers in a lent array
pub mod Handed  -- what a request hands back
pub mod Shared  -- the same of machines that share a processor
pub mod Sizing  -- words to lend, and the longest wait
pub mod Knowing  -- answers are known by their numbers
