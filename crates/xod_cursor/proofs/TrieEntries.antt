-- The entries of the map of a trie, and the least pair of it.
use Rattle.std.proofs.Common.{◌≡◌, ℕ, List, [], Some, None, sym, ◌∙◌, ap}
use Rattle.std.specs.Prelude.{IfSome}
use Rattle.std.specs.Option.{option_map}
use Rattle.std.specs.FinMap.{entries, empty, len-entries, len-empty}
use Rattle.std.proofs.lemmas.List.{nil_from_length}
use Rattle.xod_base.specs.Values.{bytes_cmp}
use Rattle.xod_base.specs.Views.{Entry, Test, first_that, least_pair, pair_of}
use Rattle.xod_block.specs.declared.address.Address.{Address}
use Rattle.xod_block.specs.Addresses.{number_of}
use Rattle.xod_block.specs.Maps.{RecordsAt, RisesEverywhere, Pairs, map_at}
use Rattle.xod_trie.specs.Tries.{TrieMap, trie_map}
use Rattle.xod_trie.proofs.CallerLemmas.{if_entries}
use Rattle.xod_cursor.specs.Entries.{kept, first_pair}
use Rattle.xod_cursor.proofs.Kept.{first_that-kept}

pub entries-empty : entries (empty {X = List ℕ} {R = bytes_cmp}) ≡ []
entries-empty = nil_from_length (entries empty) (sym (len-entries (empty {R = bytes_cmp})) ∙ len-empty bytes_cmp (List ℕ))

pub least_pair-empty : (p : Test) → least_pair p empty ≡ None
least_pair-empty p = ap (λ (es : List Entry). option_map pair_of (first_that p es)) entries-empty

-- the least pair of a map is the first entry of those that pass
pub least_pair-kept : (p : Test) (map : TrieMap) (pairs : Pairs) → entries map ≡ pairs → least_pair p map ≡ first_pair (kept p pairs)
least_pair-kept p map pairs is = ap (λ (es : List Entry). option_map pair_of (first_that p es)) is ∙ ap (option_map pair_of) (first_that-kept p pairs)

-- what holds of the first entry of those that pass under a root
pub if_least : (records : RecordsAt) (root : Address) (p : Test) (P : TrieMap → Type 0) → RisesEverywhere records → ((pairs : Pairs) → map_at records (number_of root) ≡ Some pairs → (map : TrieMap) → first_pair (kept p pairs) ≡ least_pair p map → P map) → IfSome (trie_map records (Some root)) P
if_least records root p P rises f = if_entries records root P rises (λ pairs is map same. f pairs is map (sym (least_pair-kept p map pairs same)))
