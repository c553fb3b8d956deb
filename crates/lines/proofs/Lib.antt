-- The laws of what a call left of its buffer.
pub mod BufferLaws
