pub mod Acts
pub mod Found
pub mod Making
pub mod Plans
pub mod Telling
