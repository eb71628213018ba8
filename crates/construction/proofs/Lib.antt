-- Laws and theorems, in reading order.
pub mod Basics
pub mod Equality
pub mod Mapping
-- The card text, both ways: lines, reading, writing, the round trip, and what an opened card is bounded by.
pub mod Text
-- A helper's simulation on its dictionary agrees with the sequential run (lines H1 to H30).
pub mod Simulating
-- The machine and its invariant: the shared cells with ghost state, what a process knows at each place, that every access keeps both, and so does every taken request.
pub mod Invariant
-- Entries by cases, and that the history an observer keeps agrees with the invariant after every entry.
pub mod Observing
-- Chains of free cells, and the hands of processes.
pub mod Allocating
-- Wait freedom, apart from safety: what an operation has cost at each place, that its turn comes, and that every entry keeps both.
pub mod Waiting
-- The theorems that docs/STATEMENTS.md names.
pub mod Statements
