pub mod OpenElements
pub mod Steps
pub mod Promises
