-- Laws and theorems, in reading order.
-- The machines that stand in the words go from request to request as those of the crate allowance do.
pub mod Standing
-- The requests of one machine are handed to it with its loan as it was left.
pub mod Own
-- The theorems.
pub mod Statements
-- What is proved of every run of one card, of each machine.
pub mod Corollaries
-- Ceilings, turns and shares on the words; 5 and 19 by their numbers.
pub mod Numbers
