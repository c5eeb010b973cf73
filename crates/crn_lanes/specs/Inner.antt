-- Definitions that no public contract states: of private functions and of proofs.
pub mod Lanes
pub mod Groups
