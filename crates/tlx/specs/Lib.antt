pub mod CaseReading
pub mod CaseReadingNumbers
pub mod Promises
