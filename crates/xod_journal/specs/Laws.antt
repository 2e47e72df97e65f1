-- What holds of every change, every expansion and every journal.
use Rattle.std.specs.Prelude.{◌≡◌, ◌≤◌, ◌↔◌, ℕ, IsTrue, List, ◌++◌, Option, Some, Ok}
use Rattle.std.specs.FinMap.{get}
use Rattle.xod_base.specs.declared.value.Value.{Value}
use Rattle.xod_base.specs.declared.query.Act.{Act}
use Rattle.xod_base.specs.Values.{same_value}
use Rattle.xod_base.specs.Rows.{RowsValue, is_sound}
use Rattle.xod_journal.specs.declared.change.RowChange.{RowChange}
use Rattle.xod_journal.specs.declared.journal.JournalEntry.{JournalEntry}
use Rattle.xod_journal.specs.declared.journal.Pinned.{Pinned}
use Rattle.xod_journal.specs.Changes.{are_all_named, fits, is_change, applied, all_fit, expansion_of, has_names, same_option}
use Rattle.xod_journal.specs.Books.{Books, all_booked}
use Rattle.xod_journal.specs.Standing.{Newest, Standing, opening, after, newest_after, rows_at}

-- A change that fits sound rows leaves sound rows.
abbrev pub ChangesKeepSound : Type 0
ChangesKeepSound = (rows : RowsValue) (change : RowChange) → IsTrue (is_sound rows) → IsTrue (is_change change) → IsTrue (fits rows change) → IsTrue (is_sound (applied rows change))

-- Each change of an act's expansion fits the rows after those before it.
abbrev pub ExpansionsFit : Type 0
ExpansionsFit = (rows : RowsValue) (act : Act) (changes : List RowChange) → IsTrue (are_all_named rows) → IsTrue (has_names act) → expansion_of rows act ≡ Ok changes → IsTrue (all_fit rows changes)

-- Sound rows have names of 1 to 255 bytes alone, and a change that fits leaves it so.
abbrev pub NamesStay : Type 0
NamesStay =
    ((rows : RowsValue) → IsTrue (is_sound rows) → IsTrue (are_all_named rows))
    × ((rows : RowsValue) (change : RowChange) → IsTrue (are_all_named rows) → IsTrue (fits rows change) → IsTrue (are_all_named (applied rows change)))

-- The test of two values answers whether they are equal, also where they may be absent.
abbrev pub SameIsEqual : Type 0
SameIsEqual = ((v w : Value) → IsTrue (same_value v w) ↔ (v ≡ w)) × ((v w : Option Value) → IsTrue (same_option v w) ↔ (v ≡ w))

-- Where a journal has come, it goes on as a journal that begins there.
abbrev pub JournalsGoOn : Type 0
JournalsGoOn =
    ((now : Option Standing) (journal more : List JournalEntry) → after now (journal ++ more) ≡ after (after now journal) more)
    × ((now : Option Books) (journal more : List JournalEntry) → all_booked now (journal ++ more) ≡ all_booked (all_booked now journal) more)

-- Where a journal stands, its books are those that go by its entries without any rows.
abbrev pub BooksNeedNoRows : Type 0
BooksNeedNoRows = (start now : Standing) (journal : List JournalEntry) → after (Some start) journal ≡ Some now → all_booked (Some start.books) journal ≡ Some now.books

-- The newest rows are those after the newest commit, and each open transaction has the rows after its base.
pub record IsTold (start : Newest) (journal : List JournalEntry) (now : Standing) : Type 0 where
  pub newest : newest_after start journal ≡ record { rows = now.rows; commit = now.books.commit }
  pub past : (n : ℕ) → now.books.commit ≤ n → rows_at n start.rows journal ≡ now.rows
  pub bases : (actor : ℕ) (txn : Pinned) → get now.books.txns actor ≡ Some txn → (txn.base ≤ now.books.commit) × (get now.bases actor ≡ Some (rows_at txn.base start.rows journal))

abbrev pub RowsAreThoseOfTheBase : Type 0
RowsAreThoseOfTheBase = (start : Newest) (now : Standing) (journal : List JournalEntry) → after (Some (opening start)) journal ≡ Some now → IsTold start journal now
