mod Budgets
mod Leaving
mod Undone
