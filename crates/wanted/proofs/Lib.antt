-- The laws of a list's entries.
pub mod EntryLaws
pub mod ListRead
