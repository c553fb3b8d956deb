-- How a message's fields are checked before it is written, and what writing then gives.
pub mod Behind
pub mod RepositoryLaws
pub mod WritingLaws
pub mod BodyLaws
pub mod WrittenRequest
pub mod Numbers
