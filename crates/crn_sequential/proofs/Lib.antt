pub mod Growing
mod Beginning
pub mod Running
pub mod Costs
