-- What only the steps of the code and their proofs need.
pub mod Next
pub mod Moves
