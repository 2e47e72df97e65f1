pub mod CauseLemmas
pub mod EndLemmas
pub mod EndingLemmas
pub mod RunLemmas
