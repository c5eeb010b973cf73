pub mod Budgets
pub mod Passing
