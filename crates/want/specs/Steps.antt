-- What only steps and proofs need.
pub mod Blocks
pub mod Places
pub mod Runs
pub mod Index
pub mod Head
pub mod Turn
pub mod Entry
