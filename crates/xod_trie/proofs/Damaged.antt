-- A trie with a damaged place has no map.
use Rattle.std.proofs.Common.{◌≡◌, ◌<◌, ℕ, zero, suc, List, [], ◌∷◌, Option, Some, None, slice_get, refl, ◌∙◌, ap, subst, arith, eqb, true, false, cond}
use Rattle.std.specs.Prelude.{IsSome, is_some}
use Rattle.xod_base.specs.declared.causes.Place.{Place}
use Rattle.xod_block.specs.declared.address.Address.{Address}
use Rattle.xod_block.specs.Addresses.{number_of}
use Rattle.xod_block.specs.Maps.{RecordsAt, map_at}
use Rattle.xod_block.specs.Records.{Link}
use Rattle.xod_trie.specs.Branches.{branch_of, child_of, HasChild, HaveChildren}
use Rattle.xod_trie.specs.Damage.{Names, IsReached, AtRoot, Below, IsBad, NoBranch, NotBelow, IsDamaged}
use Rattle.xod_trie.specs.Tries.{TrieMap, trie_map}
use Rattle.xod_trie.proofs.Values.{map_at-by, pairs_by, map-down}
use Rattle.xod_trie.proofs.Maps.{has_pairs, has_trie}

-- no branch, no map
pub no_branch : (records : RecordsAt) (at : ℕ) → branch_of (records at) ≡ None → map_at records at ≡ None
no_branch records at none = map_at-by records at ∙ ap (pairs_by (map_at records) at) none

pub no_branch-map : (records : RecordsAt) (at : ℕ) → branch_of (records at) ≡ None → IsSome (map_at records at) → ⊥
no_branch-map records at none some = let e = ap is_some (no_branch records at none) in absurd cc

have-at : (records : RecordsAt) (at : ℕ) (cs : List Link) (i : ℕ) (c : Link) → HaveChildren records at cs → slice_get cs i ≡ Some c → HasChild records at c
have-at records at [] i c h e = absurd cc
have-at records at (d ∷ cs) zero c h e = let same : d ≡ c = cc e in subst (HasChild records at) same h.0
have-at records at (d ∷ cs) (suc i) c h e = have-at records at cs i c h.1 e

-- a child that is named has a map below
pub named-has : (records : RecordsAt) (at : ℕ) (child : Address) → IsSome (map_at records at) → Names (records at) child → (number_of child < at) × IsSome (map_at records (number_of child))
named-has records at child some n =
    let h = have-at records at n.branch.children n.index (n.byte, child) (map-down records at n.branch some n.is) n.link in
    (h.lower, h.map)

-- the child of a byte is named
pub child_of-get : (byte : ℕ) (cs : List Link) (child : Address) → child_of byte cs ≡ Some child → (index : ℕ) × (b : ℕ) × (slice_get cs index ≡ Some (b, child))
child_of-get byte [] child e = absurd cc
child_of-get byte (c ∷ cs) child e = elim (eqb c.0 byte) as (λ q. cond q (Some c.1) (child_of byte cs) ≡ Some child → (index : ℕ) × (b : ℕ) × (slice_get (c ∷ cs) index ≡ Some (b, child))) [
  | true ↦ λ e. (0, c.0, let same : c.1 ≡ child = cc e in ap (λ (a : Address). Some (c.0, a)) same)
  | false ↦ λ e. let h = child_of-get byte cs child e in (suc h.0, h.1, h.2)
] e

pub reached-map : (records : RecordsAt) (root : Option Address) (at : Address) → IsReached records root at → IsSome (trie_map records root) → IsSome (map_at records (number_of at))
reached-map records root _ (AtRoot at is) some = has_pairs records at (subst (λ (o : Option Address). IsSome (trie_map records o)) is some)
reached-map records root _ (Below at child r n) some = (named-has records (number_of at) child (reached-map records root at r some) n).1

bad-map : (records : RecordsAt) (at : ℕ) → IsBad (records at) at → IsSome (map_at records at) → ⊥
bad-map records at (NoBranch none) some = no_branch-map records at none some
bad-map records at (NotBelow child n le) some = let h = named-has records at child some n in absurd (omega (arith, h.0, le))

no_trie : (o : Option TrieMap) → (IsSome o → ⊥) → o ≡ None
no_trie None f = refl
no_trie (Some map) f = absurd (f refl)

pub damaged-trie : (records : RecordsAt) (root : Option Address) (place : Place) → IsDamaged records root place → trie_map records root ≡ None
damaged-trie records root place d = no_trie (trie_map records root) (λ some. bad-map records (number_of d.at) d.bad (reached-map records root d.at d.reached some))

-- so no place of a trie that has a map is damaged
pub damaged-map : (records : RecordsAt) (root : Address) (place : Place) → IsDamaged records (Some root) place → IsSome (map_at records (number_of root)) → ⊥
damaged-map records root place d some = bad-map records (number_of d.at) d.bad (reached-map records (Some root) d.at d.reached (has_trie records root some))
