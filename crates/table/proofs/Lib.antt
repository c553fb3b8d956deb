-- Laws of the newest-record order and of good tables.
pub mod NewestLaws
pub mod TableLaws
pub mod WalkLaws
pub mod PassLaws
pub mod InsertLaws
pub mod UnionLaws
pub mod SideLaws
