pub mod FromParts
pub mod CaseWritingNumbers
pub mod Promises
