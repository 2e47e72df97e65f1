-- A store over an environment is a space.
use Rattle.std.specs.Prelude.{◌≡◌, ℕ, Bool, true, List, Option, Some, None, IsTrue, option_map, is_some, refl}
use Rattle.std.proofs.Common.{ap}
use Rattle.std.specs.Ordering.{nat_cmp}
use Rattle.std.specs.FinMap.{FinMap}
use Rattle.xod_base.specs.Views.{Trees}
use Rattle.xod_journal.specs.declared.journal.JournalEntry.{JournalEntry}
use Rattle.xod_journal.specs.declared.journal.Pinned.{Pinned}
use Rattle.xod_journal.specs.Spaces.{IsSpace}
use Rattle.xod_journal.specs.Standing.{Newest}
use Rattle.xod_log.specs.declared.log.Log.{Log}
use Rattle.xod_store.specs.Parts.{IsAccounted, IsBooked, IsTold, kept_in}
use Rattle.xod_store.specs.Views.{is_spent, store_view}

some_of : {A B : Type 0} (f : A → B) (o : Option A) (y : B) → option_map f o ≡ Some y → is_some o ≡ true
some_of f None y e = ap is_some e
some_of f (Some x) y e = refl

pub store_lawful : (tells : Bool) (start : Newest) (journal : List JournalEntry) (faults made sessions : ℕ) (is_broken : Bool) (log : Log) (commit : ℕ) (txns : FinMap nat_cmp Pinned) (used room : ℕ) (trees : Trees) (kinds : List (List ℕ))
    → IsAccounted journal made faults is_broken (is_spent log commit) → IsBooked start journal commit txns sessions used room → (IsTrue tells → IsTold start journal trees kinds)
    → IsSpace (store_view tells start journal faults made sessions is_broken log commit)
store_lawful tells start journal faults made sessions is_broken log commit txns used room trees kinds accounted kept told = record {
  booked = some_of kept_in _ _ kept.books;
  stands = λ tell. (told tell).stands;
  sound = λ tell. (told tell).sound;
  counted = accounted.counted;
}
