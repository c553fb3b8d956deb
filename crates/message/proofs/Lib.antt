-- Laws of messages.
pub mod ByKind
pub mod RepositoryLaws
pub mod MessageNumbers
