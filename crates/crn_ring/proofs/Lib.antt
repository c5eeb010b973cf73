pub mod Bounds
pub mod Filling
pub mod Fresh
pub mod Gauging
pub mod Opened
pub mod Remembering
pub mod Rooms
pub mod Rows
