pub mod Texts
pub mod Found
pub mod Parsing
pub mod Parser
