-- What the crates above cite of good files.
-- how many marks are open: the count, and what follows an open one
pub use Rattle.xod_recover.proofs.Opening.{opened-first, opens-followed, opened-more, opened-end}
-- which log file is used last
pub use Rattle.xod_recover.proofs.Using.{body_of-log_file_of, last_used-first}
-- the first bad place by what stands at an address, and nothing bad in what is whole
pub use Rattle.xod_recover.proofs.BadLemmas.{bad_under-step, bad_under-below, bad_under-above, bad_under-absent, Agree, bad_trees-agree}
pub use Rattle.xod_recover.proofs.Wholes.{none-whole, whole-none, trees-whole}
-- records up to a place, and how many bytes a record takes
pub use Rattle.xod_recover.proofs.Cutting.{record_in-take, records_of-cut}
pub use Rattle.xod_recover.proofs.Taking.{FewTrees, Begins, record_at-begins}
-- the newest root, and the log file that it stands in
pub use Rattle.xod_recover.proofs.Newests.{greatest-used, used-parts, check-newest, newest-check, body-numbers}
-- trees of good files, and their rows
pub use Rattle.xod_recover.proofs.Storing.{good-maps, stored-maps, newest-rows, good-rows}
pub use Rattle.xod_recover.proofs.Tabling.{trees-ok, ok-tables}
-- the roots of trees, as a list and as a map
pub use Rattle.xod_recover.proofs.Judging.{root-get}
-- reads of a volume in a row
pub use Rattle.xod_recover.proofs.OnlyReading.{reads-none, reads-then, reads-over, reads-on, rose-later}
-- what an opening keeps, and what stands above the root found
pub use Rattle.xod_recover.proofs.Keeps.{keeps-same, keeps-as, keeps-then, settled-over}
pub use Rattle.xod_recover.proofs.Reopening.{fresh-from, above-from, used-open, not-used, ends-root}
pub use Rattle.xod_recover.proofs.Recovering.{is-found, same-newest}
-- near images
pub use Rattle.xod_recover.proofs.CutKeeps.{but_any, near_found, settled_found}
-- files that are decided alike, and store the same
pub use Rattle.xod_recover.proofs.Alike.{agree-by, marked, long-agree, size-agree, all-agree, map-alike, trees-agree, SaysSame}
pub use Rattle.xod_recover.proofs.Counts.{count_is}
pub use Rattle.xod_recover.proofs.Greatest.{same_used, used_by_count, used_has, greatest_used_is, greatest-above, greatest_is, greatest_alike}
pub use Rattle.xod_recover.proofs.Counts.{is_long, opens_below, opens_gate, stops}
