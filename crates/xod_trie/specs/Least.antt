-- The least key of a map that is not below a key, or that is above one.
use Rattle.std.specs.Prelude.{◌≡◌, ℕ, Bool, true, false, if◌then◌else◌, List, [], ◌∷◌, Option, Some, None, IsSome, IsTrue}
use Rattle.std.specs.FinMap.{entries, get}
use Rattle.std.specs.Ordering.{is_lt, is_le}
use Rattle.xod_base.specs.Values.{bytes_cmp}
use Rattle.xod_base.specs.declared.pair.Pair.{Pair}
use Rattle.xod_block.specs.Maps.{Pairs}
use Rattle.xod_trie.specs.Tries.{TrieMap}

-- a test of keys
abbrev pub Test : Type 0
Test = List ℕ → Bool

abbrev pub pair_of : List ℕ × List ℕ → Pair
pair_of entry = record { key = entry.0; value = entry.1 }

-- the first pair whose key passes a test
abbrev pub first_from : Test → Pairs → Option Pair
first_from test [] = None
first_from test (entry ∷ pairs) = if test entry.0 then Some (pair_of entry) else first_from test pairs

-- whether a key is above another one or, unless that is `strict`, the same
abbrev pub passes : Bool → List ℕ → Test
passes strict key other = if strict then is_lt (bytes_cmp key other) else is_le (bytes_cmp key other)

-- the pair with the least key that passes
abbrev pub least : Bool → List ℕ → TrieMap → Option Pair
least strict key map = first_from (passes strict key) (entries map)

-- the pair with the least key that is not below a key
abbrev pub least_from : List ℕ → TrieMap → Option Pair
least_from key map = least false key map

-- the pair with the least key that is above a key
abbrev pub least_above : List ℕ → TrieMap → Option Pair
least_above key map = least true key map

-- a pair of the map whose key passes, and no other key of the map that passes is below it
pub record IsLeast (test : Test) (map : TrieMap) (pair : Pair) : Type 0 where
  pub there : get map pair.key ≡ Some pair.value
  pub passing : IsTrue (test pair.key)
  pub first : (other : List ℕ) → IsSome (get map other) → IsTrue (test other) → IsTrue (is_le (bytes_cmp pair.key other))
