pub mod SequenceOctets
pub mod Said
pub mod Promises
