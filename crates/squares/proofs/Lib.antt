mod TableTest
pub mod Pairs
pub mod TableRule
pub mod SquareFacts
pub mod Counts
pub mod NumbersExactly
pub mod OneAnswer
