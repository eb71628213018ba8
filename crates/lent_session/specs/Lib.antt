-- Definitions of the program lent_session: a session of the bench program on a card in lent words
pub mod Altering
pub mod Answering
pub mod Printing
