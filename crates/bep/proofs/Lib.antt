-- Laws of the answers as words.
mod FillingLaws
mod TableLaws
mod StepLaws
mod DetailsLaws
pub mod HasherLaws
mod RequestLaws
