pub mod Cursors
pub mod Entries
pub mod Walks
pub mod Wants
