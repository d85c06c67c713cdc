pub mod Reader
pub mod ReadBack
pub mod Deciding
pub mod Raised
mod StepsRight
mod Steps
pub mod Sizes
pub mod Places
pub mod NumbersExactly
pub mod OneAnswer
