-- A trie as a finite map, by the records that it is made of.
use Rattle.std.specs.Prelude.{ℕ, List, Option, Some, None}
use Rattle.std.specs.Option.{option_map}
use Rattle.std.specs.FinMap.{FinMap, from_entries, empty, find}
use Rattle.xod_base.specs.Values.{bytes_cmp}
use Rattle.xod_block.specs.declared.address.Address.{Address}
use Rattle.xod_block.specs.Addresses.{number_of}
use Rattle.xod_block.specs.Maps.{RecordsAt, Pairs, map_at}

-- keys in the order of their bytes, each with its value
abbrev pub TrieMap : Type 0
TrieMap = FinMap bytes_cmp (List ℕ)

-- The map of the trie under a root: that of its pairs, whose keys rise, where they are there. Without a root it is empty.
abbrev pub trie_map : RecordsAt → Option Address → Option TrieMap
trie_map records None = Some empty
trie_map records (Some root) = option_map (λ pairs. from_entries pairs) (map_at records (number_of root))

-- the value of a key among pairs; none where there are no pairs
abbrev pub value_in : Option Pairs → List ℕ → Option (List ℕ)
value_in None key = None
value_in (Some pairs) key = find bytes_cmp key pairs

-- the value of a key in the map at an address
abbrev pub value_at : RecordsAt → ℕ → List ℕ → Option (List ℕ)
value_at records at key = value_in (map_at records at) key
