pub mod Changes
pub mod Keys
pub mod Laws
pub mod LookUps
pub mod Reading
pub mod Tables
pub mod Touches
pub mod Writes
