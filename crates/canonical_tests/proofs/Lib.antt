pub mod TestsRight
pub mod OneAnswer
