pub mod Plainness
pub mod PlainFields
pub mod Reread
pub mod Fields
mod Refusals
