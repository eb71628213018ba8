-- The requests of construction by the pieces of a card that they look at
pub mod Judging
