pub mod Lent
pub mod LentRuns
pub mod Steps
