pub mod Errors
pub mod Ends
pub mod Standing
pub mod Calls
pub mod Runs
