pub mod Exactly
mod Puts
pub mod Back
pub mod CanonicalBehind
pub mod OneAnswer
