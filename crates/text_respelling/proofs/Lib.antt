mod Characters
mod Counting
mod ReadingFirst
pub mod OneAnswer
