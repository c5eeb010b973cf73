pub mod Rows
pub mod Amounts
pub mod Periods
pub mod Runs
pub mod Seats
pub mod Loaded
