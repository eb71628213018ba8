-- Laws of the row's definitions, and a rule for walks
pub mod Guard
pub mod Laws
