-- The texts of the programs in a block
pub mod Texts
