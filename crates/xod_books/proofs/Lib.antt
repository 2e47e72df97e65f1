pub mod GoingLemmas
pub mod TxnLemmas
