-- The card text, both ways: lines, reading, writing, the round trip, and what an opened card is bounded by.
pub mod Lines
pub mod Decoding
pub mod Forms
pub mod Reading
pub mod Given
pub mod Writing
pub mod RoundTrip
pub mod Bounds
pub mod Changes
