pub mod Reasons
pub mod Steps
