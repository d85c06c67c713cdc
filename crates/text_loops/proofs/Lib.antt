pub mod FewWords
pub mod Tallied
pub mod Steps
pub mod Fronts
mod RunsAndPairs
pub mod OneAnswer
