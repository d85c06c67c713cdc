pub mod Steps
pub mod Reach
mod Places
pub mod Reader
pub mod Refusals
pub mod Twins
pub mod EightValues
pub mod NumbersExactly
pub mod OneAnswer
