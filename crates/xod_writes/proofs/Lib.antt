pub mod CallerLemmas
pub mod EntryTrees
pub mod Following
pub mod Grown
pub mod Holding
pub mod NameTrees
pub mod NextTree
