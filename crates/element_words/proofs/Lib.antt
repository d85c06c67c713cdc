pub mod Words
pub mod HeadWords
mod Meanings
pub mod NumbersExactly
pub mod OneAnswer
