-- Laws and theorems, in reading order.
-- 'Under way' by the notes of demand 3 and by the card.
pub mod UnderWay
-- Executions one after the other, and the listing by recursion on the steps still to choose.
pub mod Executions
pub mod Branches
-- A schedule step by step is the run of demand 3 over its calls and steps; its steps are counted.
pub mod Runs
pub mod Counts
-- The listing in pieces, its text, and how long that can get.
pub mod Pieces
pub mod Texts
pub mod Lengths
-- The theorems that docs/STATEMENTS.md names.
pub mod Statements
