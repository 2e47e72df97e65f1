-- What the calls of a store that fails as planned come to.
use Rattle.std.proofs.Common.{◌≡◌, ◌≤◌, ℕ, List, Some, None, ap, arith}
use Rattle.std.proofs.lemmas.Option.{none-some, same_Some}
use Rattle.xod_base.specs.declared.answer.FlushAnswer.TheVariants as answer
use Rattle.xod_base.specs.declared.causes.Cause.{Cause}
use Rattle.xod_base.specs.declared.causes.Cause.TheVariants as cause
use Rattle.xod_journal.specs.declared.change.RowChange.{RowChange}
use Rattle.xod_journal.specs.declared.journal.JournalEntry.{JournalEntry}
use Rattle.xod_journal.specs.Books.{flush_answer, version_of}
use Rattle.xod_journal.specs.Seats.{seat_of}
use Rattle.xod_journal.specs.Spaces.{IsFault}
use Rattle.xod_journal.proofs.CallerLemmas.{flush_cases}
use Rattle.xod_spaces.specs.declared.outside.Outside.{Outside}
use Rattle.xod_spaces.specs.declared.space.FaultySpace.{FaultySpace}
use Rattle.xod_spaces.specs.Frames.{IsSameStore}
use Rattle.xod_spaces.specs.Outsides.{IsFaultIn}
use Rattle.xod_spaces.specs.Views.{faulty_view, start_at}

-- ---- what an admitted call leaves

pub same-seat : (old new : FaultySpace) (actor : ℕ) → IsSameStore old new → seat_of (start_at new.first) new.journal.items actor ≡ seat_of (start_at old.first) old.journal.items actor
same-seat old new actor same = λ i. seat_of (start_at (same.first i)) (same.journal i) actor

-- ---- flushes

pub committed-is : (commit base : ℕ) (own : List RowChange) (version : ℕ) → version_of (flush_answer commit base own) ≡ Some version → flush_answer commit base own ≡ answer.Committed version None
committed-is commit base own version =
    flush_cases (λ a. version_of a ≡ Some version → a ≡ answer.Committed version None) commit base own (λ e. absurd (none-some version e)) (λ is e. ap (λ v. answer.Committed v None) (same_Some _ _ e)) (λ e. absurd (none-some version e))

-- a fault since an earlier moment
module _ (first later sessions players : ℕ) (before now : List JournalEntry) (old was new : Outside) (rises : old.faults ≤ was.faults) where
  pub fault-since : (reason : Cause) → IsFaultIn was new reason → IsFault (faulty_view first before sessions old) (faulty_view later now players new) reason
  fault-since cause.Device fault = let rose = fault first before now sessions in omega arith
  fault-since cause.Broken fault = fault first before now sessions
  fault-since cause.Damaged fault = fault first before now sessions
  fault-since cause.Spent fault = fault first before now sessions
  fault-since cause.Memory fault = tt
