pub mod Field
pub mod Reading
pub mod Saving
pub mod Promised
pub mod Steps
