-- The dictionaries in a loan
pub mod Items
pub mod Loans
pub mod Simulated
