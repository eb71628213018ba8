-- The worked pieces and small examples of the documents, as tables.
pub mod Terms
pub mod Pieces
pub mod Changes
pub mod Traces
pub mod Refusals
