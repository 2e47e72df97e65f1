pub mod Rooms
pub mod Texts
