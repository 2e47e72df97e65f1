pub mod Facts
pub mod Keeping
pub mod Laws
pub mod Refusals
pub mod Shows
pub mod Txns
