pub mod Grammar
pub mod Raised
pub mod ElementHead
pub mod StepTests
pub mod ElementNumbers
pub mod Promises
