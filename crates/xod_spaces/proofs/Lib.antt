mod KeepingLemmas
mod PairLemmas
mod SpaceLemmas
