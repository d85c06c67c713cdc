pub mod RunsAndPairs
pub mod Fronts
pub mod LawWords
pub mod Promises
