pub mod Rows
pub mod Plain
pub mod Inner
