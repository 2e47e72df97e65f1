-- What the crates above cite of the log: pairs of files, runs of calls, and what is claimed of an image.
-- the files of a pair, and what reads give of them
pub use Rattle.xod_log.proofs.Changed.{written_file, appended_file, other_file}
pub use Rattle.xod_log.proofs.Synced.{put_there, put_is_there}
pub use Rattle.xod_log.proofs.Marking.{on_some, has_bytes}
pub use Rattle.xod_log.proofs.Pairs.{listed, has_pair_over, has_both, nothing_used, empty_durable, empty_stands}
-- calls one after another
pub use Rattle.xod_log.proofs.Runs.{begun, goes, sure, unmoved, rested, weakened, joined, since_either}
-- marks, and what they claim
pub use Rattle.xod_log.proofs.Bytes.{same_gate, same_numbers}
pub use Rattle.xod_log.proofs.Claims.{files_apart, same_bytes, open_before, covered_within, was_open, pair_opens, pair_sealed, appended_opens, appended_sealed, sealed-longer, numbers-read}
-- out of the steps of an append, a seal and a roll
pub use Rattle.xod_log.proofs.Rolling.{elsewhere, next_apart, used_over, sealing_rolls, due_appends, not_due_appends, appends_due, appends_not_due}
-- standing
pub use Rattle.xod_log.proofs.SealRuns.{stood_mark}
pub use Rattle.xod_log.proofs.Rolling.{stands_beside, stands_on, append_stands, rolled_empty, sealed_file, sealed_outlives, sealed_before, sealed_now}
-- a roll that is prepared, and then an append to the next file
pub use Rattle.xod_log.proofs.Rolling.{rolled_behind, then_append, then_append_reads, then_append_claims}
-- what stays settled, and where the body comes before the mark
pub use Rattle.xod_log.proofs.Synced.{settled_still, settled_after, settled_by}
pub use Rattle.xod_log.proofs.Rolling.{stood_first, first_after}
