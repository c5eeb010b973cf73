pub mod Tree
pub mod Fields
pub mod Reading
pub mod Inner
