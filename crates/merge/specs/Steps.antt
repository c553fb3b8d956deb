-- What only steps and proofs need.
pub mod Next
pub mod Notes
