pub mod Kinds
pub mod Grammar
pub mod Twins
pub mod EightValues
pub mod SequenceHead
pub mod SequenceNumbers
pub mod Promises
