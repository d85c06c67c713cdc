pub mod CanonicalSpelling
pub mod SpellingGiven
pub mod Promises
