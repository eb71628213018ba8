pub mod SessionLaws
pub mod Histories
