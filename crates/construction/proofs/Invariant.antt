-- The machine and its invariant: the shared cells with ghost state, what a process knows at each place, that every access keeps both, and so does every taken request.
pub mod World
pub mod WorldKept
pub mod Claims
pub mod Locals
pub mod Assertions
pub mod NextPlaces
pub mod Stages
pub mod Acting
pub mod NextWrites
pub mod GateSteps
pub mod AnnouncementSteps
pub mod HelpSteps
pub mod WriteSteps
pub mod Steps
pub mod Cards
-- A text changed while the machine runs.
pub mod Changing
pub mod Answers
pub mod ActiveFlags
