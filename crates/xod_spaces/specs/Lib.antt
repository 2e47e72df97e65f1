pub mod FaultyLaw
pub mod FaultyTxns
pub mod Frames
pub mod Keeping
pub mod Outsides
pub mod Pairs
pub mod Views
