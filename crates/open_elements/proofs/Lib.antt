pub mod Faults
pub mod Fronts
pub mod Opened
mod Gathering
mod Waiting
pub mod OneAnswer
