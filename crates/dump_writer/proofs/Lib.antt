pub mod LineLaws
pub mod RowLaws
pub mod CourseLaws
pub mod Sessions
