-- The finite map of a trie.
use Rattle.std.proofs.Common.{◌≡◌, ℕ, List, Option, Some, None, refl, sym, ◌∙◌, ap}
use Rattle.std.specs.Prelude.{IsSome, IfSome}
use Rattle.std.specs.Option.{option_map}
use Rattle.std.specs.FinMap.{get, entries, entries_sorted, from_entries, get-entries, get-from_entries, nat_cmp-IsAntisymmetric, slice_cmp-IsAntisymmetric}
use Rattle.std.specs.FinMap.Entries.{same_entries}
use Rattle.std.specs.Cmp.Lexicographic.{nat_list_cmp_total}
use Rattle.std.proofs.lemmas.Float.{T_from_true}
use Rattle.xod_base.specs.Values.{bytes_cmp}
use Rattle.xod_block.specs.declared.address.Address.{Address}
use Rattle.xod_block.specs.Addresses.{number_of}
use Rattle.xod_block.specs.Maps.{RecordsAt, RisesEverywhere, OnlyMore, Pairs, map_at}
use Rattle.xod_block.proofs.CallerLemmas.{map_at-rises, map_at-more}
use Rattle.xod_trie.specs.Tries.{TrieMap, trie_map, value_in, value_at}

map_of : Option Pairs → Option TrieMap
map_of o = option_map (λ pairs. from_entries {R = bytes_cmp} pairs) o

-- what the map under a root has, where there is one
pub if_map : (records : RecordsAt) (root : Address) (P : TrieMap → Type 0) → (IsSome (map_at records (number_of root)) → (map : TrieMap) → ((key : List ℕ) → get map key ≡ value_at records (number_of root) key) → P map) → IfSome (trie_map records (Some root)) P
if_map records root P f = elim (map_at records (number_of root)) as (λ o. (IsSome o → (map : TrieMap) → ((key : List ℕ) → get map key ≡ value_in o key) → P map) → IfSome (option_map (λ pairs. from_entries pairs) o) P) [
  | None ↦ λ f. tt
  | Some pairs ↦ λ f. f refl (from_entries pairs) (λ key. get-from_entries nat_list_cmp_total pairs key)
] f

-- where the address of a root has no pairs
pub no_map : (records : RecordsAt) (root : Address) → (IsSome (map_at records (number_of root)) → ⊥) → trie_map records (Some root) ≡ None
no_map records root f = elim (map_at records (number_of root)) as (λ o. (IsSome o → ⊥) → option_map (λ pairs. from_entries {R = bytes_cmp} pairs) o ≡ None) [
  | None ↦ λ f. refl
  | Some pairs ↦ λ f. absurd (f refl)
] f

-- and where it has some
pub has_pairs : (records : RecordsAt) (root : Address) → IsSome (trie_map records (Some root)) → IsSome (map_at records (number_of root))
has_pairs records root some = elim (map_at records (number_of root)) as (λ o. IsSome (option_map (λ pairs. from_entries {R = bytes_cmp} pairs) o) → IsSome o) [
  | None ↦ λ e. e
  | Some pairs ↦ λ e. refl
] some

pub has_trie : (records : RecordsAt) (root : Address) → IsSome (map_at records (number_of root)) → IsSome (trie_map records (Some root))
has_trie records root some = elim (map_at records (number_of root)) as (λ o. IsSome o → IsSome (option_map (λ pairs. from_entries {R = bytes_cmp} pairs) o)) [
  | None ↦ λ e. e
  | Some pairs ↦ λ e. refl
] some

pub trie_values : (records : RecordsAt) (root : Address) (key : List ℕ) → IfSome (trie_map records (Some root)) (λ map. get map key ≡ value_at records (number_of root) key)
trie_values records root key = if_map records root (λ map. get map key ≡ value_at records (number_of root) key) (λ some map is. is key)

pub trie_map-more : (old new : RecordsAt) (root : Address) → OnlyMore old new (number_of root) → IsSome (trie_map old (Some root)) → trie_map new (Some root) ≡ trie_map old (Some root)
trie_map-more old new root more some = ap (option_map (λ pairs. from_entries {R = bytes_cmp} pairs)) (map_at-more old new (number_of root) more (has_pairs old root some))

-- rising pairs are the entries of their map
entries-is : (records : RecordsAt) (at : ℕ) (pairs : Pairs) → RisesEverywhere records → map_at records at ≡ Some pairs → entries (from_entries {R = bytes_cmp} pairs) ≡ pairs
entries-is records at pairs rises e = same_entries bytes_cmp nat_list_cmp_total (slice_cmp-IsAntisymmetric nat_cmp-IsAntisymmetric) (entries (from_entries {R = bytes_cmp} pairs)) pairs (entries_sorted (from_entries {R = bytes_cmp} pairs)) (T_from_true _ (map_at-rises records at pairs rises e)) (λ q. sym (get-entries (from_entries {R = bytes_cmp} pairs) q) ∙ get-from_entries nat_list_cmp_total pairs q)

-- the entries of the map under a root, where there is one
pub if_entries : (records : RecordsAt) (root : Address) (P : TrieMap → Type 0) → RisesEverywhere records → ((pairs : Pairs) → map_at records (number_of root) ≡ Some pairs → (map : TrieMap) → entries map ≡ pairs → P map) → IfSome (trie_map records (Some root)) P
if_entries records root P rises f = elim (map_at records (number_of root)) as (λ o. map_at records (number_of root) ≡ o → IfSome (option_map (λ pairs. from_entries pairs) o) P) [
  | None ↦ λ e. tt
  | Some pairs ↦ λ e. f pairs e (from_entries pairs) (entries-is records (number_of root) pairs rises e)
] refl
