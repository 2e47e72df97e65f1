pub mod Laws
pub mod Marks
pub mod Merging
pub mod Pieces
pub mod Places
pub mod Restoring
