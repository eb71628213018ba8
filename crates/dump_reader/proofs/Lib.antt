pub mod Laws
pub mod Loops
pub mod Whole
pub mod RowLaws
