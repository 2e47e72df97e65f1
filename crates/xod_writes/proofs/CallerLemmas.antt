-- What crates above cite of the writes of changes.
-- writes after writes
pub use Rattle.xod_writes.proofs.Holding.{after-append}
-- the tables follow one change, and a list of them
pub use Rattle.xod_writes.proofs.Following.{follow, follow_all}
