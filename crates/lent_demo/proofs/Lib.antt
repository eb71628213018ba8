-- A rule for walks
pub mod LendArray
