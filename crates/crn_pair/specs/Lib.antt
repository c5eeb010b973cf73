pub mod Limits
pub mod LowestTerms
pub mod Pairs
pub mod Refused
pub mod Inner
