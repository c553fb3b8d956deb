-- SHA-256 as FIPS 180-4 has it.
pub mod Functions
pub mod Constants
pub mod Roots
pub mod Schedule
pub mod Hash
pub mod Steps
pub mod Stream
