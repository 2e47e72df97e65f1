pub mod CallerLemmas
pub mod Listed
pub mod Rising
pub mod Setting
