pub mod Turning
pub mod Steps
