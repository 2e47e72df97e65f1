-- The books of a journal: every rule of its steps that needs no rows.
use Rattle.std.specs.Prelude.{ℕ, ◌+◌, Bool, true, false, List, [], ◌∷◌, Option, Some, None, is_some, option_and_then, ◌==◌, if◌then◌else◌}
use Rattle.std.specs.Ordering.{nat_cmp}
use Rattle.std.specs.FinMap.{FinMap, get, insert, remove, entries}
use Rattle.xod_journal.specs.declared.change.RowChange.{RowChange}
use Rattle.xod_base.specs.declared.answer.FlushAnswer.{FlushAnswer}
use Rattle.xod_base.specs.declared.answer.FlushAnswer.TheVariants as answer
use Rattle.xod_base.specs.declared.query.Mode.{Mode}
use Rattle.xod_base.specs.declared.query.Mode.TheVariants.{Ordinary, ReadOnly, Exclusive}
use Rattle.xod_journal.specs.declared.journal.Step.{Step}
use Rattle.xod_journal.specs.declared.journal.Step.TheVariants.{Begin, Flush, Revert, End, Sync, Stop}
use Rattle.xod_journal.specs.declared.journal.Pinned.{Pinned}
use Rattle.xod_journal.specs.declared.journal.JournalEntry.{JournalEntry}

-- What a journal's steps are admitted by: the newest commit, the newest one that is on the disk, each actor's open
-- transaction, and who has stopped.
pub record Books : Type 0 where
  pub commit : ℕ
  pub synced : ℕ
  pub txns : FinMap nat_cmp Pinned
  pub stopped : FinMap nat_cmp (Unit {0})

-- ---- admission

-- whether a transaction of the second mode keeps one of the first from beginning
abbrev pub is_in_the_way : Mode → Mode → Bool
is_in_the_way ReadOnly there = false
is_in_the_way Ordinary Exclusive = true
is_in_the_way Ordinary there = false
is_in_the_way Exclusive ReadOnly = false
is_in_the_way Exclusive there = true

-- the least actor whose transaction is in the way
abbrev pub holder_among : Mode → List (ℕ × Pinned) → Option ℕ
holder_among mode [] = None
holder_among mode (e ∷ es) = if is_in_the_way mode (e.1).mode then Some e.0 else holder_among mode es

abbrev pub holder : Books → Mode → Option ℕ
holder books mode = holder_among mode (entries books.txns)

-- ---- flushes

abbrev pub has_none : List RowChange → Bool
has_none [] = true
has_none (change ∷ more) = false

-- A flush with changes commits exactly where no other commit came since the transaction's base.
abbrev pub flush_answer : ℕ → ℕ → List RowChange → FlushAnswer
flush_answer commit base changes =
    if has_none changes then answer.Nothing
    else if base == commit then answer.Committed (commit + 1) None
    else answer.Conflict base commit

-- the number of the commit that a flush made
abbrev pub version_of : FlushAnswer → Option ℕ
version_of answer.Nothing = None
version_of (answer.Committed version fault) = Some version
version_of (answer.Conflict base now) = None

-- whether two numbers are the same, or both are absent
abbrev pub same_version : Option ℕ → Option ℕ → Bool
same_version None None = true
same_version None (Some n) = false
same_version (Some m) None = false
same_version (Some m) (Some n) = m == n

-- ---- steps

abbrev pub pinned : Books → ℕ → Pinned → Books
pinned books actor txn = record books { txns = insert books.txns actor txn }

abbrev pub unpinned : Books → ℕ → Books
unpinned books actor = record books { txns = remove books.txns actor }

-- a commit has the next number, and its transaction goes on there
abbrev pub committed : Books → ℕ → Pinned → Option ℕ → Books
committed books actor txn None = books
committed books actor txn (Some version) = record (pinned books actor (record txn { base = version })) { commit = version }

-- The books after a step of an actor who has not stopped and has this transaction open; none where it is not admitted.
abbrev pub booked_in : Books → ℕ → Step → Option Pinned → Option Books
booked_in books actor (Begin mode) None =
    if is_some (holder books mode) then None else Some (pinned books actor (record { mode = mode; base = books.commit }))
booked_in books actor (Begin mode) (Some txn) = None
booked_in books actor (Flush changes version) None = None
booked_in books actor (Flush changes version) (Some txn) =
    if same_version version (version_of (flush_answer books.commit txn.base changes)) then Some (committed books actor txn version) else None
booked_in books actor Revert None = None
booked_in books actor Revert (Some txn) = Some (pinned books actor (record txn { base = books.commit }))
booked_in books actor End None = None
booked_in books actor End (Some txn) = Some (unpinned books actor)
booked_in books actor Sync txn = Some (record books { synced = books.commit })
booked_in books actor (Stop line cause origin) txn = Some (record (unpinned books actor) { stopped = insert books.stopped actor tt })

abbrev pub has_stopped : Books → ℕ → Bool
has_stopped books actor = is_some (get books.stopped actor)

-- The books after a step; none where the journal can't have it there.
unfoldable pub booked : Books → ℕ → Step → Option Books
booked books actor step = if has_stopped books actor then None else booked_in books actor step (get books.txns actor)

-- Where the books have come.
abbrev pub all_booked : Option Books → List JournalEntry → Option Books
all_booked books [] = books
all_booked books (entry ∷ more) = all_booked (option_and_then (λ here. booked here entry.actor entry.step) books) more
