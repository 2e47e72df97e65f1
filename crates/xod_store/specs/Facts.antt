-- What a store's type keeps has one proof at most, which such a fact needs.
use Rattle.std.specs.Prelude.{ℕ, List, Option}
use Rattle.std.specs.Ordering.{nat_cmp}
use Rattle.std.specs.FinMap.{FinMap}
use Rattle.std.specs.Coded.{Coded-set, coded_list, coded_option, coded_ℕ, coded×}
use Rattle.xod_base.specs.Rows.{RowsValue, rows_code}
use Rattle.xod_journal.specs.declared.journal.Pinned.{Pinned}
use Rattle.xod_books.specs.Txns.{txns_code}

-- what is kept of books, rows that may be absent, and lists of names are equal in one way at most
pub same_kept : IsSet (Option (ℕ × FinMap nat_cmp Pinned))
same_kept = Coded-set (coded_option (coded× coded_ℕ txns_code))

pub same_rows : IsSet (Option RowsValue)
same_rows = Coded-set (coded_option rows_code)

pub same_kinds : IsSet (List (List ℕ))
same_kinds = Coded-set (coded_list (coded_list coded_ℕ))
