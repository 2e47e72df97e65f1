pub mod Fetching
pub mod Fronts
pub mod Keeping
