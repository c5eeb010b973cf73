pub mod Hex
pub mod Names
