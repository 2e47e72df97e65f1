pub mod Files
pub mod Crash
pub mod Leases
pub mod Record
pub mod Places
