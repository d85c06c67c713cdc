pub mod SerialNumbers
pub mod Feeding
pub mod Promises
pub mod Calls
