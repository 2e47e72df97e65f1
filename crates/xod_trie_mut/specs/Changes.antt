-- Changes of a trie's map, one after another.
use Rattle.std.specs.Prelude.{◌≡◌, ℕ, List, [], ◌∷◌, Option, Some, None, IsSome}
use Rattle.std.specs.FinMap.{get, insert, remove}
use Rattle.std.specs.Option.{option_copied}
use Rattle.std.specs.List.{AllByRecursion}
use Rattle.xod_block.specs.Records.{FitsPart, FitsOwn}
use Rattle.xod_trie.specs.Tries.{TrieMap}
use Rattle.xod_trie_mut.specs.declared.change.Change.{Change}

-- a value at a key, or no value there any more
abbrev pub set_in : TrieMap → List ℕ → Option (List ℕ) → TrieMap
set_in map key None = remove map key
set_in map key (Some value) = insert map key value

-- a map with one change
abbrev pub with_change : TrieMap → Change → TrieMap
with_change map change = set_in map change.key.now (option_copied change.value)

-- and with all of a list, the first one first
abbrev pub with_changes : TrieMap → List Change → TrieMap
with_changes map [] = map
with_changes map (change ∷ changes) = with_changes (with_change map change) changes

-- a key and a value that fit into a record
abbrev pub FitsChange : Change → Type 0
FitsChange change = FitsPart change.key.now × FitsOwn (option_copied change.value)

abbrev pub FitChanges : List Change → Type 0
FitChanges changes = AllByRecursion FitsChange changes

-- no key of a map is longer than a record's part can be
abbrev pub KeysFit : TrieMap → Type 0
KeysFit map = (key : List ℕ) → IsSome (get map key) → FitsPart key

-- each change of a list gives its key what the map has there already
abbrev pub SetNothing : TrieMap → List Change → Type 0
SetNothing map changes = AllByRecursion (λ change. get map change.key.now ≡ option_copied change.value) changes

-- a value that is to be set fits into a record, and so does its key
abbrev pub FitsPut : List ℕ → Option (List ℕ) → Type 0
FitsPut key None = Unit {0}
FitsPut key (Some value) = FitsPart key × FitsPart value

abbrev pub FitsToSet : Change → Type 0
FitsToSet change = FitsPut change.key.now (option_copied change.value)

abbrev pub FitToSet : List Change → Type 0
FitToSet changes = AllByRecursion FitsToSet changes
