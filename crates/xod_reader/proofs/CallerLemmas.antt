-- What crates above cite of answers that are what rows have.
-- what the rows have, said another way; an answer of which it is known what the rows have; calls that succeeded, and that failed
pub use Rattle.xod_reader.proofs.Told.{reads_as, ok_rows, value_rows, fails_rows, same_cause}
-- what a call says of a view that an earlier one left, what both leave of it, and how a failed one counts
pub use Rattle.xod_reader.proofs.Told.{moved}
pub use Rattle.xod_reader.proofs.Named.{keeps_itself, keeps_on, counts_on, memory_counts}
-- rows have nothing by names that are not listed, and lists of which nothing passes
pub use Rattle.xod_reader.proofs.Listing.{absent, none_kept, no_value, no_targets}
