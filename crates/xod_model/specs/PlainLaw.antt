-- A store in lists is a space.
use Rattle.std.specs.Prelude.{◌≡◌, ℕ, ◌+◌, true, List, Option, Some, None, option_map, is_some, refl}
use Rattle.std.proofs.Common.{ap, sym, subst, arith}
use Rattle.std.specs.Ordering.{nat_cmp}
use Rattle.std.specs.FinMap.{FinMap}
use Rattle.std.proofs.lemmas.Bool.{false≢true}
use Rattle.xod_base.specs.Rows.{RowsValue}
use Rattle.xod_journal.specs.declared.journal.JournalEntry.{JournalEntry}
use Rattle.xod_journal.specs.declared.journal.Pinned.{Pinned}
use Rattle.xod_journal.specs.Seats.{books_after}
use Rattle.xod_journal.specs.Spaces.{IsCounted, IsSpace}
use Rattle.xod_journal.specs.Standing.{Newest, Standing, after, opening}
use Rattle.xod_journal.proofs.CallerLemmas.{after-booked}
use Rattle.xod_model.specs.Plain.{Keeps, kept_of, plain_view}

some_of : {A B : Type 0} (f : A → B) (o : Option A) (y : B) → option_map f o ≡ Some y → is_some o ≡ true
some_of f None y e = ap is_some e
some_of f (Some x) y e = refl

booked_there : (start : Newest) (journal : List JournalEntry) (o : Option Standing) → after (Some (opening start)) journal ≡ o → is_some o ≡ true → is_some (books_after start journal) ≡ true
booked_there start journal None is some = absurd (false≢true some)
booked_there start journal (Some now) is some = ap is_some (after-booked (opening start) now journal is)

pub plain_lawful : (start : Newest) (journal : List JournalEntry) (commit : ℕ) (txns : FinMap nat_cmp Pinned) (rows : RowsValue) (sessions used room : ℕ)
    → Keeps start journal commit txns rows sessions used room → IsSpace (plain_view start journal commit sessions)
plain_lawful start journal commit txns rows sessions used room kept = record {
  booked = booked_there start journal _ refl (some_of kept_of _ _ kept.stands);
  stands = λ _. some_of kept_of _ _ kept.stands;
  sound = λ _. kept.sound;
  counted = subst (λ n. IsCounted (0 + n) 0) (sym kept.undisturbed) (omega arith);
}
