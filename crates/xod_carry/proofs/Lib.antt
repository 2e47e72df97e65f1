pub mod Apart
pub mod ByteKeys
pub mod CallerLemmas
pub mod Carrying
pub mod Each
pub mod Indexing
pub mod Lists
pub mod Lookups
