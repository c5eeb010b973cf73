pub mod Holds
pub mod Seats
pub mod Plays
pub mod Places
pub mod Closes
pub mod Schedules
