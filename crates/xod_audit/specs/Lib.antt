pub mod Audits
pub mod Checks
pub mod Laws
pub mod Looks
pub mod Tests
