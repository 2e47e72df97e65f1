-- What a journal has of an actor: whether it has stopped, and its open transaction.
use Rattle.std.specs.Prelude.{ℕ, Bool, List, [], ◌∷◌, ◌++◌, Option, Some, option_map, option_and_then, is_some}
use Rattle.std.specs.FinMap.{get}
use Rattle.xod_base.specs.declared.query.Mode.{Mode}
use Rattle.xod_journal.specs.declared.journal.JournalEntry.{JournalEntry}
use Rattle.xod_journal.specs.declared.journal.Pinned.{Pinned}
use Rattle.xod_journal.specs.declared.journal.Step.{Step}
use Rattle.xod_journal.specs.Books.{Books, all_booked, has_stopped, holder}
use Rattle.xod_journal.specs.Standing.{Newest, opening}

-- the journal with one entry more
abbrev pub entered : List JournalEntry → ℕ → Step → List JournalEntry
entered journal actor step = journal ++ record { actor = actor; step = step } ∷ []

-- the books of a journal that began with nothing open
abbrev pub books_after : Newest → List JournalEntry → Option Books
books_after start journal = all_booked (Some ((opening start).books)) journal

-- what the books have of an actor: whether it has stopped, and its open transaction
abbrev pub Seat : Type 0
Seat = Bool × Option Pinned

abbrev pub seat_in : ℕ → Books → Seat
seat_in actor books = (has_stopped books actor, get books.txns actor)

abbrev pub seat_of : Newest → List JournalEntry → ℕ → Option Seat
seat_of start journal actor = option_map (seat_in actor) (books_after start journal)

-- whether an actor has stopped
abbrev pub is_over : Seat → Bool
is_over seat = seat.0

-- whether an actor has stopped, and whether it has a transaction open
abbrev pub has_open : Seat → Bool × Bool
has_open seat = (seat.0, is_some seat.1)

-- the least actor whose transaction keeps one of a mode from beginning
abbrev pub busy_of : Newest → List JournalEntry → Mode → Option ℕ
busy_of start journal mode = option_and_then (λ books. holder books mode) (books_after start journal)
