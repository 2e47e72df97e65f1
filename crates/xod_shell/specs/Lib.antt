pub mod Commands
pub mod Endings
pub mod Holdings
pub mod Runs
pub mod Statuses
