pub mod Ranges
pub mod Reads
