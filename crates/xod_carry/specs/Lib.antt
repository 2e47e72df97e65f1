pub mod Carry
pub mod Index
pub mod Laws
