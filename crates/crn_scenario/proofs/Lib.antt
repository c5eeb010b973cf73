pub mod FirstFault
pub mod LaterNames
pub mod ItemFacts
pub mod Kept
pub mod Policies
