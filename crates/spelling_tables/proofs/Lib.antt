mod Slots
pub mod LentSpellings
pub mod StoredOctets
pub mod OneAnswer
