-- Laws of words that are fed run by run.
pub mod WordLaws
pub mod LentLaws
pub mod RunLaws
pub mod OnceLaws
pub mod InPlaceLaws
pub mod LentPromise
