pub mod Merged
pub mod Highest
pub mod Answer
pub mod Steps
