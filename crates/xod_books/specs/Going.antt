-- How many sessions of a store have not stopped.
use Rattle.std.specs.Prelude.{ℕ, zero, suc, ◌+◌, Option, Some, None, if◌then◌else◌}
use Rattle.xod_journal.specs.Books.{Books, has_stopped}

-- the number of sessions, from the first to this one, that have not stopped
abbrev pub going : ℕ → Books → ℕ
going zero books = 0
going (suc n) books = going n books + (if has_stopped books (suc n) then 0 else 1)

abbrev pub still_going : ℕ → Option Books → ℕ
still_going sessions None = 0
still_going sessions (Some books) = going sessions books
