pub mod Going
pub mod Txns
