pub mod Squares
pub mod Promises
