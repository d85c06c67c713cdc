mod Pages
mod Fills
mod Rooms
mod OnePage
pub mod PageNumbers
pub mod Cases
pub mod EachPage
pub mod Respelled
pub mod OneAnswer
