pub mod Gates
pub mod Parts
pub mod Calls
pub mod Inner
