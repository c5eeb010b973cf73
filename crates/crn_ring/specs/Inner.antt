-- Definitions that no public contract states: of private functions, of proofs and of what a type keeps by its invariant.
pub mod Gates
pub mod Plays
pub mod Rooms
