mod Lengths
mod Headers
pub mod Checked
pub mod PagePlaces
pub mod Laid
pub mod Promised
pub mod OneAnswer
