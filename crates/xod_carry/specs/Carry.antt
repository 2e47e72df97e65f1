-- A finite map carried into another one: each key by a function that may leave it out, each value by another function.
use Rattle.std.specs.Prelude.{ℕ, suc, List, [], ◌∷◌, Option, Some, None}
use Rattle.std.specs.declared.cmp.Ordering.{Ordering}
use Rattle.std.specs.FinMap.{FinMap, insert, remove, from_entries, entries}

module _ {L Y : Type 0} where
  -- a list with an entry before it, where the entry has a key
  abbrev pub with_pair : Option L → Y → List (L × Y) → List (L × Y)
  with_pair None value others = others
  with_pair (Some key) value others = (key, value) ∷ others

  -- a map with a value put at a key, where there is a key
  abbrev pub added : {S : L → L → Ordering} → Option L → Y → FinMap S Y → FinMap S Y
  added None value map = map
  added (Some key) value map = insert map key value

  -- a map with a key removed, where there is a key
  abbrev pub taken : {S : L → L → Ordering} → Option L → FinMap S Y → FinMap S Y
  taken None map = map
  taken (Some key) map = remove map key

module _ {K X L Y : Type 0} (key_of : K → Option L) (value_of : X → Y) where
  -- the entries whose keys have an image, each with its key's image and its value's
  abbrev pub carried : List (K × X) → List (L × Y)
  carried [] = []
  carried (entry ∷ others) = with_pair (key_of entry.0) (value_of entry.1) (carried others)

  -- the map of the images of a map's entries
  abbrev pub carry : {R : K → K → Ordering} (S : L → L → Ordering) → FinMap R X → FinMap S Y
  carry S map = from_entries (carried (entries map))

-- the items of a list, each with its number, the first with the one given
abbrev pub numbered : {X : Type 0} → ℕ → List X → List (ℕ × X)
numbered number [] = []
numbered number (item ∷ items) = (number, item) ∷ numbered (suc number) items
