-- Laws that the proofs of the functions cite, here and in helping
pub mod Rooms
pub mod Laws
