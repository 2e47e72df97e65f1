-- What the crates above cite of trees and their entries.
-- the first entry that passes: of two lists, of keys with a front, by two tests, by a test that nothing passes
pub use Rattle.xod_base.proofs.ViewLemmas.{first_that-append, first_that-front, first_that-same, first_that-none}
-- the order of keys with a front
pub use Rattle.xod_base.proofs.ViewLemmas.{bytes_cmp-front, not_below-front, above-front}
-- what the least entry of a tree is, and that only one is
pub use Rattle.xod_base.proofs.ViewLemmas.{least-IsLeast, least-from_IsLeast}
-- a walk from key to key
pub use Rattle.xod_base.proofs.ViewLemmas.{those_that-none, those_that-not_below, those_that-above}
