-- Laws of a walk.
pub mod WalkLaws
