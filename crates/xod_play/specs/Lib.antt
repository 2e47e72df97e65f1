pub mod Finished
pub mod Follows
pub mod Orders
pub mod Places
pub mod Players
pub mod Rounds
pub mod Stops
pub mod Told
