pub mod CheckpointText
pub mod Reading
pub mod Migration
pub mod Faults
pub mod Inner
