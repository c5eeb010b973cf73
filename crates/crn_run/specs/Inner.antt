-- Definitions that no public contract states: of private functions, of proofs and of what a type keeps by its invariant.
pub mod Ends
pub mod Jobs
pub mod Looks
pub mod Refusals
pub mod Taken
