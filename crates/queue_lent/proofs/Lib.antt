pub mod WordLaws
pub mod LaidLaws
pub mod LentLaws
pub mod TotalLaws
pub mod Unchanged
