-- A trie in memory reads no record above the root that it was made over.
use Rattle.std.proofs.Common.{◌≡◌, ◌<◌, ◌≤◌, ℕ, zero, suc, ◌+◌, ◌-◌, List, [], ◌∷◌, ◌++◌, length, Bool, true, false, cond, ltb, Option, Some, None, slice_get, refl, sym, ◌∙◌, ap, arith, inl, inr}
use Rattle.std.specs.Prelude.{IfSome}
use Rattle.std.specs.List.{AllByRecursion}
use Rattle.std.specs.Option.{option_and_then, option_map}
use Rattle.std.specs.FinMap.{from_entries}
use Rattle.std.proofs.lemmas.Bool.{cases_lt, le-ltb}
use Rattle.xod_base.specs.Values.{bytes_cmp}
use Rattle.xod_block.specs.declared.address.Address.{Address}
use Rattle.xod_block.specs.Addresses.{number_of}
use Rattle.xod_block.specs.Maps.{RecordsAt, Pairs, under, own_pair, joined, pairs_of_children, map_at}
use Rattle.xod_block.specs.Records.{Link}
use Rattle.xod_trie.specs.declared.branch.Branch.{Branch}
use Rattle.xod_trie.specs.Branches.{branch_of}
use Rattle.xod_trie.specs.Tries.{trie_map}
use Rattle.xod_trie.proofs.CallerLemmas.{pairs_by, map_at-by}
use Rattle.xod_trie_mut.specs.Own.{AreOwn, IsLower, IsLowerBy, IsBelowBase, IsRoot, is_saved, is_whole, record_as, record_of, own_start, with_own}
use Rattle.xod_trie_mut.proofs.OwnLemmas.{saved_read, own_read, branch_of-record}

-- a number that is not one of a record above a root
abbrev IsUpTo : Option Address → ℕ → Type 0
IsUpTo None n = ⊥
IsUpTo (Some root) n = n ≤ number_of root

abbrev IsSeen : Option Address → ℕ → Type 0
IsSeen base n = n < own_start → IsUpTo base n

-- only the maps of the children matter
children-agree : (f g : ℕ → Option Pairs) (at : ℕ) (cs : List Link) → AllByRecursion (λ child. number_of child.1 < at → f (number_of child.1) ≡ g (number_of child.1)) cs → pairs_of_children f at cs ≡ pairs_of_children g at cs
children-agree f g at [] h = refl
children-agree f g at (c ∷ cs) h =
    let n = number_of c.1 in
    let choose : Bool → Option Pairs → Option Pairs → Option Pairs = λ b first others. cond b (joined (option_map (under (c.0 ∷ [])) first) others) None in
    elim (cases_lt n at) [
      | inl lt ↦
          ap (λ (o : Option Pairs). choose (ltb n at) o (pairs_of_children f at cs)) (h.0 lt)
          ∙ ap (choose (ltb n at) (g n)) (children-agree f g at cs h.1)
      | inr ge ↦
          let no : ltb n at ≡ false = le-ltb n at ge in
          ap (λ (b : Bool). choose b (f n) (pairs_of_children f at cs)) no
          ∙ sym (ap (λ (b : Bool). choose b (g n) (pairs_of_children g at cs)) no)
    ]

by-agree : (f g : ℕ → Option Pairs) (at : ℕ) (o : Option Branch) → ((b : Branch) → o ≡ Some b → AllByRecursion (λ child. number_of child.1 < at → f (number_of child.1) ≡ g (number_of child.1)) b.children) → pairs_by f at o ≡ pairs_by g at o
by-agree f g at None h = refl
by-agree f g at (Some b) h = ap (option_map (λ pairs. under b.key (own_pair b.value ++ pairs))) (children-agree f g at b.children (h b refl))

of_own : (o : Option Branch) (b : Branch) → branch_of (option_and_then record_of o) ≡ Some b → o ≡ Some b
of_own None b e = absurd cc
of_own (Some c) b e = elim (is_whole c) as (λ q. branch_of (cond q (Some (record_as c)) None) ≡ Some b → Some c ≡ Some b) [
  | true ↦ λ e. sym (branch_of-record c.key c.value c.children) ∙ e
  | false ↦ λ e. absurd cc
] e

up-lower : (base : Option Address) (m n : ℕ) → m < n → IsUpTo base n → IsUpTo base m
up-lower None m n lt h = h
up-lower (Some root) m n lt h = omega (arith, lt, h)

below-up : (base : Option Address) (a : Address) → IsBelowBase base a → IsUpTo base (number_of a)
below-up None a h = h
below-up (Some root) a h = h

lower-seen-by : (q : Bool) (base : Option Address) (i : ℕ) (a : Address) → IsLowerBy q base i a → IsSeen base (number_of a)
lower-seen-by true base i a h lt = below-up base a h
lower-seen-by false base i a h lt = let f = h.own in absurd (omega (arith, f, lt))

lower-seen : (base : Option Address) (i : ℕ) (a : Address) → IsLower base i a → IsSeen base (number_of a)
lower-seen base i a h = lower-seen-by (is_saved a) base i a h

module _ (base : Option Address) (own : List Branch) (each : AreOwn base own) (old new : RecordsAt) (same : IfSome base (λ root. (at : ℕ) → at ≤ number_of root → old at ≡ new at)) where
  same-up : (b : Option Address) → IfSome b (λ root. (at : ℕ) → at ≤ number_of root → old at ≡ new at) → (n : ℕ) → IsUpTo b n → old n ≡ new n
  same-up None h n up = absurd up
  same-up (Some root) h n up = h n up

  here-same : (n : ℕ) → IsSeen base n → with_own own old n ≡ with_own own new n
  here-same n seen = elim (cases_lt n own_start) [
    | inl lt ↦ saved_read own old n lt ∙ same-up base same n (seen lt) ∙ sym (saved_read own new n lt)
    | inr ge ↦ let e : n ≡ own_start + (n - own_start) = omega (arith, ge) in own_read own old n (n - own_start) e ∙ sym (own_read own new n (n - own_start) e)
  ]

  -- the children of what is seen are seen
  saved-children : (n : ℕ) (cs : List Link) → IsUpTo base n → AllByRecursion (λ child. number_of child.1 < n → IsSeen base (number_of child.1)) cs
  saved-children n [] up = tt
  saved-children n (c ∷ cs) up = (λ lt start. up-lower base (number_of c.1) n lt up, saved-children n cs up)

  own-children : (n i : ℕ) (cs : List Link) → AllByRecursion (λ child. IsLower base i child.1) cs → AllByRecursion (λ child. number_of child.1 < n → IsSeen base (number_of child.1)) cs
  own-children n i [] h = tt
  own-children n i (c ∷ cs) h = (λ lt. lower-seen base i c.1 h.0, own-children n i cs h.1)

  seen-children : (n : ℕ) (b : Branch) → IsSeen base n → branch_of (with_own own old n) ≡ Some b → AllByRecursion (λ child. number_of child.1 < n → IsSeen base (number_of child.1)) b.children
  seen-children n b seen is = elim (cases_lt n own_start) [
    | inl lt ↦ saved-children n b.children (seen lt)
    | inr ge ↦
        let e : n ≡ own_start + (n - own_start) = omega (arith, ge) in
        let there = of_own (slice_get own (n - own_start)) b (ap branch_of (sym (own_read own old n (n - own_start) e)) ∙ is) in
        own-children n (n - own_start) b.children (each (n - own_start) b there).lower
  ]

  all-through : (P Q : ℕ → Type 0) (n : ℕ) (cs : List Link) → ((m : ℕ) → m < n → P m → Q m) → AllByRecursion (λ child. number_of child.1 < n → P (number_of child.1)) cs → AllByRecursion (λ child. number_of child.1 < n → Q (number_of child.1)) cs
  all-through P Q n [] f h = tt
  all-through P Q n (c ∷ cs) f h = (λ lt. f (number_of c.1) lt (h.0 lt), all-through P Q n cs f h.1)

  map-same : (bound n : ℕ) → n < bound → IsSeen base n → map_at (with_own own old) n ≡ map_at (with_own own new) n
  map-same zero n lt seen = absurd (omega (arith, lt))
  map-same (suc bound) n lt seen =
      map_at-by (with_own own old) n
      ∙ by-agree (map_at (with_own own old)) (map_at (with_own own new)) n (branch_of (with_own own old n)) (λ b is. all-through (IsSeen base) (λ m. map_at (with_own own old) m ≡ map_at (with_own own new) m) n b.children (λ m l s. map-same bound m (omega (arith, l, lt)) s) (seen-children n b seen is))
      ∙ ap (λ o. pairs_by (map_at (with_own own new)) n (branch_of o)) (here-same n seen)
      ∙ sym (map_at-by (with_own own new) n)

  pub root-same : (root : Option Address) → IsRoot base (length own) root → trie_map (with_own own old) root ≡ trie_map (with_own own new) root
  root-same None h = refl
  root-same (Some a) h = ap (option_map (λ pairs. from_entries {R = bytes_cmp} pairs)) (map-same (suc (number_of a)) (number_of a) (omega arith) (lower-seen base (length own) a h))
