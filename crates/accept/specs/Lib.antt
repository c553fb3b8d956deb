pub mod Resulting
pub mod Accepting
pub mod Steps
