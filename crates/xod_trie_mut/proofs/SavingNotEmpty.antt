-- No trie under a root is empty, where each node has a value or two children.
use Rattle.std.proofs.Common.{◌≡◌, ◌<◌, ◌≤◌, ℕ, zero, suc, ◌-◌, Bool, true, false, ◌&&◌, cond, List, [], ◌∷◌, ◌++◌, length, Option, Some, None, slice_get, refl, sym, ◌∙◌, ap, subst, arith, inl, inr}
use Rattle.std.specs.Prelude.{IfSome}
use Rattle.std.specs.FinMap.{empty, from_entries, get, insert, get-empty, get-insert}
use Rattle.std.specs.Ordering.{eq_by_cmp}
use Rattle.std.specs.Option.{option_and_then, option_map}
use Rattle.std.specs.Cmp.Lexicographic.{nat_list_cmp_total}
use Rattle.std.proofs.lemmas.Cmp.{eq_by_cmp_equiv}
use Rattle.std.proofs.lemmas.Bool.{and_parts, cases_lt}
use Rattle.std.proofs.lemmas.Bool.Decides.{nat_tests}
use Rattle.xod_base.specs.Values.{bytes_cmp}
use Rattle.xod_block.specs.declared.address.Address.{Address}
use Rattle.xod_block.specs.Addresses.{number_of}
use Rattle.xod_block.specs.Maps.{RecordsAt, BranchesEverywhere, HasEnoughChildren, Pairs, map_at, own_pair, pairs_of, pairs_of_children, under}
use Rattle.xod_block.specs.Records.{Link, RecordValue, Leaf, Node, Root, least_children, rise}
use Rattle.xod_block.proofs.CallerLemmas.{children-join, map_at-step}
use Rattle.xod_trie.specs.declared.branch.Branch.{Branch}
use Rattle.xod_trie.specs.Tries.{TrieMap, trie_map}
use Rattle.xod_trie_mut.specs.Own.{are_enough, own_start, record_as, record_by, record_of, with_own}
use Rattle.xod_trie_mut.proofs.SavingOwn.{own-at, own-below}

abbrev HasPairs : Pairs → Type 0
HasPairs [] = ⊥
HasPairs (p ∷ pairs) = Unit {0}

under-has : (front : List ℕ) (pairs : Pairs) → HasPairs pairs → HasPairs (under front pairs)
under-has front [] h = h
under-has front (p ∷ pairs) h = tt

first-has : (pairs others : Pairs) → HasPairs pairs → HasPairs (pairs ++ others)
first-has [] others h = absurd h
first-has (p ∷ pairs) others h = tt

abbrev Below : ℕ → (ℕ → Option Pairs) → Type 0
Below at below = (n : ℕ) (pairs : Pairs) → n < at → below n ≡ Some pairs → HasPairs pairs

children-has : (below : ℕ → Option Pairs) (at : ℕ) → Below at below → (cs : List Link) (pairs : Pairs) → 1 ≤ length cs → pairs_of_children below at cs ≡ Some pairs → HasPairs pairs
children-has below at each [] pairs some e = absurd (omega (arith, some))
children-has below at each (c ∷ cs) pairs some e =
    let j = children-join below at c cs pairs e in
    subst HasPairs (sym j.whole) (first-has (under (c.0 ∷ []) j.first) j.others (under-has (c.0 ∷ []) j.first (each (number_of c.1) j.first j.lower j.first_is)))

node-has : (below : ℕ → Option Pairs) (at : ℕ) → Below at below → (key : List ℕ) (v : Option (List ℕ)) (cs : List Link) (o : Option Pairs) (pairs : Pairs) → least_children v ≤ length cs → pairs_of_children below at cs ≡ o → option_map (λ ps. under key (own_pair v ++ ps)) o ≡ Some pairs → HasPairs pairs
node-has below at each key v cs None pairs enough is e = absurd cc
node-has below at each key None cs (Some ps) pairs enough is e =
    let whole : under key ps ≡ pairs = cc e in
    subst HasPairs whole (under-has key ps (children-has below at each cs ps (omega (arith, enough)) is))
node-has below at each key (Some v) cs (Some ps) pairs enough is e =
    let whole : under key (([], v) ∷ ps) ≡ pairs = cc e in
    subst HasPairs whole (under-has key (([], v) ∷ ps) tt)

record-has : (below : ℕ → Option Pairs) (at : ℕ) → Below at below → (o : Option RecordValue) (pairs : Pairs) → IfSome o HasEnoughChildren → pairs_of below at o ≡ Some pairs → HasPairs pairs
record-has below at each None pairs enough e = absurd cc
record-has below at each (Some (Leaf key value)) pairs enough e = let is : (key, value) ∷ [] ≡ pairs = cc e in subst HasPairs is tt
record-has below at each (Some (Node key value cs)) pairs enough e = node-has below at each key value cs (pairs_of_children below at cs) pairs enough refl e
record-has below at each (Some (Root commit trees)) pairs enough e = absurd cc

within-has : (records : RecordsAt) → BranchesEverywhere records → (depth at : ℕ) (pairs : Pairs) → at < depth → map_at records at ≡ Some pairs → HasPairs pairs
within-has records enough zero at pairs lt e = absurd (omega (arith, lt))
within-has records enough (suc depth) at pairs lt e =
    record-has (map_at records) at (λ n ps low is. within-has records enough depth n ps (omega (arith, lt, low)) is) (records at) pairs (enough at) (sym (map_at-step records at) ∙ e)

-- its map has the first key
not-empty : (pairs : Pairs) → HasPairs pairs → from_entries {R = bytes_cmp} pairs ≡ empty → ⊥
not-empty [] h e = h
not-empty (p ∷ pairs) h e =
    let others : TrieMap = from_entries pairs in
    let same : eq_by_cmp bytes_cmp p.0 p.0 ≡ true = (eq_by_cmp_equiv nat_list_cmp_total).refl p.0 in
    let there : get (insert others p.0 p.1) p.0 ≡ Some p.1 = get-insert nat_list_cmp_total others p.0 p.1 p.0 ∙ ap (λ (q : Bool). cond q (Some p.1) (get others p.0)) same in
    let none : None ≡ Some p.1 = sym (ap (λ (m : TrieMap). get m p.0) e ∙ get-empty bytes_cmp p.0) ∙ there in
    cc

map-not_empty : (o : Option Pairs) (map : TrieMap) → ((pairs : Pairs) → o ≡ Some pairs → HasPairs pairs) → option_map (λ pairs. from_entries {R = bytes_cmp} pairs) o ≡ Some map → map ≡ empty → ⊥
map-not_empty None map has e none = absurd cc
map-not_empty (Some pairs) map has e none = let is : from_entries {R = bytes_cmp} pairs ≡ map = cc e in not-empty pairs (has pairs refl) (is ∙ none)

pub trie-not_empty : (records : RecordsAt) (root : Address) (map : TrieMap) → BranchesEverywhere records → trie_map records (Some root) ≡ Some map → map ≡ empty → ⊥
trie-not_empty records root map enough e none = map-not_empty (map_at records (number_of root)) map (λ pairs is. within-has records enough (suc (number_of root)) (number_of root) pairs (omega arith) is) e none

-- ---- branches in memory

enough-by : (key : List ℕ) (v : Option (List ℕ)) (cs : List Link) → are_enough v (length cs) ≡ true → HasEnoughChildren (record_by key v cs)
enough-by key None cs e = grind (arith, nat_tests)
enough-by key (Some v) [] e = tt
enough-by key (Some v) (c ∷ cs) e = omega arith

enough-of : (o : Option Branch) → IfSome (option_and_then record_of o) HasEnoughChildren
enough-of None = tt
enough-of (Some b) = elim (rise b.children && are_enough b.value (length b.children)) as (λ q. (rise b.children && are_enough b.value (length b.children)) ≡ q → IfSome (cond q (Some (record_as b)) None) HasEnoughChildren) [
  | true ↦ λ e. enough-by b.key b.value b.children (and_parts (rise b.children) (are_enough b.value (length b.children)) e).1
  | false ↦ λ e. tt
] refl

pub own-branches : (own : List Branch) (records : RecordsAt) → BranchesEverywhere records → BranchesEverywhere (with_own own records)
own-branches own records enough at = elim (cases_lt at own_start) [
  | inl lt ↦ subst (λ (o : Option RecordValue). IfSome o HasEnoughChildren) (sym (own-below own records at lt)) (enough at)
  | inr ge ↦ subst (λ (o : Option RecordValue). IfSome o HasEnoughChildren) (sym (own-at own records at (at - own_start) (omega arith))) (enough-of (slice_get own (at - own_start)))
]
