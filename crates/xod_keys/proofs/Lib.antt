pub mod CallerLemmas
mod IntegersRead
mod KeysRead
mod Pushed
mod ReadWalks
