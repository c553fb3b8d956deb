pub mod Limits
pub mod Header
pub mod Message
pub mod Answers
pub mod Kinds
pub mod Steps
