pub mod Branches
pub mod Damage
pub mod Least
pub mod Shapes
pub mod Tries
pub mod Ways
