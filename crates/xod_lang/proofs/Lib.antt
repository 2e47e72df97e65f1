pub mod CallerLemmas
pub mod FormsGiven
pub mod LineLemmas
pub mod ReadLemmas
pub mod WellFormedLemmas
