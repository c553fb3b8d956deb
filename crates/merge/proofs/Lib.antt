-- Laws of merged tables.
pub mod TwoLaws
pub mod StepLaws
pub mod NoteLaws
pub mod NotingLaws
pub mod PutLaws
pub mod LoopLaws
pub mod AnswerLaws
pub mod HighestLaws
pub mod MergeLaws
