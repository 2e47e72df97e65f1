pub mod CallerLemmas
pub mod Numbers
pub mod Passes
pub mod Rising
pub mod Sorting
pub mod Steps
