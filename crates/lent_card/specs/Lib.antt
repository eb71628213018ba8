-- The requests on a block of words
pub mod Requests
