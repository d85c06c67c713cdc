pub mod Could
pub mod WordsUpTo
pub mod Holding
pub mod Repeating
pub mod EveryCarry
pub mod Pages
pub mod OneRow
pub mod Theorems
mod Edges
mod FedBy
pub mod OneAnswer
