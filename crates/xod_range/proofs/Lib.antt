pub mod CallerLemmas
mod Steps
mod Walks
