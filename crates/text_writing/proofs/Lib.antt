pub mod Packed
pub mod Limit
mod Places
pub mod Runs
pub mod OneAnswer
