-- Wait freedom (document 02, order 3), apart from safety: what an operation has cost at each place, that its turn comes, and that every step keeps both.
pub mod Turns
pub mod Courses
pub mod CourseSteps
pub mod GateSteps
pub mod AnnouncementSteps
pub mod HelpSteps
pub mod Choices
pub mod Nominees
pub mod DueSteps
pub mod Steps
pub mod Cards
pub mod Entries
