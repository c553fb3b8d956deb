pub mod Requests
pub mod OneLink
pub mod Hashes
pub mod Steps
pub mod History
