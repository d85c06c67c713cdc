pub mod LentEntries
pub mod OneAnswer
