-- A store that fails as planned is a space.
use Rattle.std.specs.Prelude.{◌≡◌, ℕ, true, List, Option, Some, None, option_map, is_some, refl}
use Rattle.std.proofs.Common.{ap, arith}
use Rattle.std.specs.Ordering.{nat_cmp}
use Rattle.std.specs.FinMap.{FinMap}
use Rattle.std.proofs.lemmas.Bool.{false≢true}
use Rattle.xod_journal.specs.declared.journal.JournalEntry.{JournalEntry}
use Rattle.xod_journal.specs.declared.journal.Pinned.{Pinned}
use Rattle.xod_journal.specs.Spaces.{IsSpace}
use Rattle.xod_spaces.specs.declared.outside.Outside.{Outside}
use Rattle.xod_spaces.specs.Keeping.{Keeps, kept_in}
use Rattle.xod_spaces.specs.Views.{faulty_view}

some_of : {A B : Type 0} (f : A → B) (o : Option A) (y : B) → option_map f o ≡ Some y → is_some o ≡ true
some_of f None y e = ap is_some e
some_of f (Some x) y e = refl

pub faulty_lawful : (first : ℕ) (journal : List JournalEntry) (commit : ℕ) (txns : FinMap nat_cmp Pinned) (sessions used room : ℕ) (outside : Outside)
    → Keeps first journal commit txns sessions used room outside.faults → IsSpace (faulty_view first journal sessions outside)
faulty_lawful first journal commit txns sessions used room outside kept =
    let counted = kept.counted in
    record {
      booked = some_of kept_in _ _ kept.booked;
      stands = λ told. absurd (false≢true told);
      sound = λ told. absurd (false≢true told);
      counted = omega arith;
    }
