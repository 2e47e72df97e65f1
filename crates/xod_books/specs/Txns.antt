-- How a proof tells maps of open transactions apart.
use Rattle.std.specs.Ordering.{nat_cmp}
use Rattle.std.specs.FinMap.{FinMap}
use Rattle.std.specs.FinMap as map_of
use Rattle.std.specs.Coded.{Coded, coded_ℕ}
use Rattle.xod_journal.specs.declared.journal.Pinned.{Pinned}
use Rattle.xod_journal.specs.contracts.journal.Pinned as pinned_contracts

abbrev pub txns_code : Coded (FinMap nat_cmp Pinned)
txns_code = map_of.code coded_ℕ ((pinned_contracts.the_row).coded)
