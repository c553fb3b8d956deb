-- Laws of SHA-256.
mod BitLaws
pub mod ByteLaws
mod WordLaws
mod RoundLaws
pub mod HashLaws
pub mod BlockLaws
mod StreamLaws
pub mod FinishLaws
pub mod Padding
pub mod Pieces
pub mod RootLaws
pub mod Examples
