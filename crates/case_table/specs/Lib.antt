pub mod Layout
pub mod Check
pub mod Grammar
pub mod PagePlaces
pub mod HeaderNumbers
pub mod Promises
