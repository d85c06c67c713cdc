pub mod ReadingNumbers
pub mod ReadAnswers
pub mod LawWords
pub mod Promises
