-- An index of a finite map: for each entry some entries, whose keys go by the value too.
use Rattle.std.specs.Prelude.{List, [], ◌∷◌}
use Rattle.std.specs.List.{flat_map}
use Rattle.std.specs.declared.cmp.Ordering.{Ordering}
use Rattle.std.specs.FinMap.{FinMap, insert, remove, from_entries, entries}

-- the map of what each entry of a map gives
abbrev pub index : {K X L Y : Type 0} → (K × X → List (L × Y)) → {R : K → K → Ordering} (S : L → L → Ordering) → FinMap R X → FinMap S Y
index gives S map = from_entries (flat_map gives (entries map))

module _ {L Y : Type 0} {S : L → L → Ordering} where
  -- a map with each entry of a list put into it
  abbrev pub all_put : List (L × Y) → FinMap S Y → FinMap S Y
  all_put [] map = map
  all_put (entry ∷ others) map = insert (all_put others map) entry.0 entry.1

  -- a map with the keys of a list removed
  abbrev pub all_taken : List (L × Y) → FinMap S Y → FinMap S Y
  all_taken [] map = map
  all_taken (entry ∷ others) map = remove (all_taken others map) entry.0
