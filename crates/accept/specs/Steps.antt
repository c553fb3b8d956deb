-- What only steps and proofs need.
pub mod Slots
pub mod Next
pub mod Sorted
