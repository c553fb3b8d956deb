pub mod Listing
pub mod Found
pub mod Wanted
pub mod Details
pub mod Steps
