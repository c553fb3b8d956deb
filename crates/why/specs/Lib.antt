pub mod Bad
pub mod Number
