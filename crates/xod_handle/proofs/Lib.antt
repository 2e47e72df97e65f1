pub mod Arranging
pub mod FoldedTexts
pub mod Inductions
pub mod Joining
pub mod Own
pub mod Same
pub mod Telling
pub mod WordEnds
