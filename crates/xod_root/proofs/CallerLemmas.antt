-- What the crates above cite of roots and their records.
-- the entries of a map are its map again, and so the record that lists roots gives them back
pub use Rattle.xod_root.proofs.Listed.{from_entries-entries, root-again}
-- numbers that rise from one link to the next rise throughout, and the other way round
pub use Rattle.xod_root.proofs.Rising.{rise-sorted, sorted-rise}
-- what the roots are after one is set, and how many: what a `set` requires
pub use Rattle.xod_root.proofs.Setting.{get-with_root, get-with_root-other, len-with_root, len-with_root-listed, len-with_root-none}
