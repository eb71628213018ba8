-- A step on lent words
pub mod Steps
