mod SpellingWays
pub mod CanonicalExactly
pub mod SpellingFacts
pub mod OneAnswer
