mod Advancing
mod Asking
mod Opening
mod Ending
mod Batches
mod OneResult
mod Publishing
mod Turning
