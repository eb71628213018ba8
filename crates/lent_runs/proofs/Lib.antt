-- What is proved of block and loan over lists of entries
pub mod Loans
pub mod Judged
pub mod Requested
pub mod Others
pub mod Untouched
pub mod ShortLoans
pub mod ShortBlocks
pub mod Entries
pub mod Runs
pub mod Statements
pub mod Handing
