-- Laws of records: what answers tell of a reading, and what holds of what was read.
pub mod SizeRule
pub mod FlagBits
pub mod HeadLaws
pub mod NameSteps
pub mod PathSteps
mod SmoothLaws
pub mod NameLaws
pub mod Answered
pub mod Arrays
pub mod OutlineLaws
pub mod StringLaws
pub mod OptionLaws
mod MissingLaws
pub mod BlockLaws
pub mod FileLaws
pub mod Sizes
pub mod SignedOrder
pub mod RisingLaws
pub mod CheckLaws
