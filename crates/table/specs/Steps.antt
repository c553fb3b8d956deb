-- What only steps and proofs need.
pub mod Standing
pub mod Side
