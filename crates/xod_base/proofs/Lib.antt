pub mod ByteOrder
pub mod CallerLemmas
mod Folding
mod IdNumbers
pub mod KeyEnds
pub mod KeyOrder
mod KeyReading
pub mod ViewLemmas
