pub mod ElementOctets
pub mod Promises
