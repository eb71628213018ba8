-- Laws and theorems, in reading order.
-- Sums over quotas, and what a step and a turn do to an allowance.
pub mod Allowing
-- Opening, both ways, and what a refused one leaves.
pub mod Opening
-- What the functions of src cite.
pub mod Fours
pub mod Rooms
-- A request by cases.
pub mod Cases
-- The theorems.
pub mod Statements
