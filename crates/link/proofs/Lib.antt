-- Laws of links.
pub mod RequestLaws
pub mod LinkLaws
pub mod IssueLaws
pub mod AnswerLaws
pub mod Moves
pub mod AskedLaws
pub mod HistoryLaws
mod HashLaws
pub mod OwnedArray
