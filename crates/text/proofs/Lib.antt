mod Respelling
mod Converting
pub mod OneAnswer
pub mod SixteenReadings
pub mod Demands
