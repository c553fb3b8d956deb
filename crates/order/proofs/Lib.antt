-- Laws of the orders.
pub mod OrderLaws
pub mod PartLaws
pub mod WordLaws
pub mod SameLaws
pub mod HashLaws
pub mod NameLaws
