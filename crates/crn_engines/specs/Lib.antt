pub mod Bytes
pub mod Inputs
pub mod Refusals
pub mod Commands
pub mod Inner
