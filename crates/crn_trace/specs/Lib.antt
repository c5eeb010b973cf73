pub mod BlockWords
pub mod Schedule
pub mod Trace
pub mod Inner
