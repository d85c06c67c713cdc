pub mod PackedSpellings
pub mod Promises
