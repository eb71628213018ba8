-- Machines that share one processor, each with a card in its part of lent words
pub mod Parts
pub mod Requests
pub mod Judging
pub mod Opening
