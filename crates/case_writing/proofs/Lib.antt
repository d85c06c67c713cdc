mod Parts
mod WaysOut
pub mod Written
pub mod OneAnswer
