pub mod Named
pub mod Naming
pub mod Orders
pub mod Slots
pub mod Told
