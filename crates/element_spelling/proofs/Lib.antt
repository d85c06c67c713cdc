mod Steps
pub mod Writer
pub mod OneAnswer
pub mod SpeltSizes
