pub mod Lengths
pub mod WrittenRows
mod Places
mod Apart
mod Rows
mod Words
mod Dues
mod Restoring
mod Turns
mod Restorable
mod Judged
