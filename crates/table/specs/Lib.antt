pub mod Newest
pub mod Limits
pub mod Table
pub mod Steps
pub mod Insert
