pub mod CommandLine
pub mod Parsing
pub mod Inner
