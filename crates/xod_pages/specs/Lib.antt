pub mod Lent
pub mod Shows
