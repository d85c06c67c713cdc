pub mod Edges
pub mod ByTable
pub mod ReadTexts
mod Wholes
pub mod Lone
pub mod Respelled
pub mod OneAnswer
