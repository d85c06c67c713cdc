mod Upper
mod Spacings
pub mod Tests
pub mod TablePages
pub mod Lookups
pub mod Sorted
pub mod FormNumbers
pub mod SortFacts
pub mod SortNumbers
pub mod SortsExactly
pub mod NumbersExactly
pub mod OneAnswer
