pub mod Outcomes
pub mod WriteAnswers
pub mod WritingNumbers
pub mod SixteenReadings
pub mod Promises
pub mod DemandWords
