-- Laws of the ruling.
pub mod RulingLaws
