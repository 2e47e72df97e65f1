-- Two tries with the same map have one shape: the values at all keys tell the key part, the value and the child bytes of each branch.
use Rattle.std.proofs.Common.{◌≡◌, ◌<◌, ℕ, zero, suc, List, [], ◌∷◌, ◌++◌, true, false, Option, Some, None, refl, sym, ◌∙◌, ap, subst, arith, inl, inr}
use Rattle.std.specs.Prelude.{IsSome, is_some, IfSome}
use Rattle.std.specs.FinMap.{get, empty, get-empty}
use Rattle.std.proofs.lemmas.Bool.{cases_eq, cases_lt}
use Rattle.xod_base.specs.Values.{bytes_cmp}
use Rattle.xod_block.specs.declared.address.Address.{Address}
use Rattle.xod_block.specs.Addresses.{number_of}
use Rattle.xod_block.specs.Maps.{RecordsAt, RisesEverywhere, BranchesEverywhere, map_at}
use Rattle.xod_block.specs.Records.{Link, rise}
use Rattle.xod_block.proofs.CallerLemmas.{rise-rest}
use Rattle.xod_trie.specs.declared.branch.Branch.{Branch}
use Rattle.xod_trie.specs.Branches.{HasChild, HaveChildren, branch_of, child_of, value_in_child}
use Rattle.xod_trie.specs.Shapes.{AreAlike, IsAlike, BothAlike, SameWithin, HaveSameShape}
use Rattle.xod_trie.specs.Tries.{TrieMap, trie_map, value_at}
use Rattle.xod_trie.proofs.Keys.{all_above, none_above}
use Rattle.xod_trie.proofs.Maps.{has_pairs, trie_values}
use Rattle.xod_trie.proofs.ShapesKeys.{Branching, HasFront, begins-both, there, child-first, child-later, Stands, stands, value-own, value-below, a_key, child-has, key-begins, front-of-all}

-- ---- two tries

-- the same value at each key
abbrev SameValues : Branching → Branching → ℕ → ℕ → Type 0
SameValues ones others at place = (key : List ℕ) → value_at others.records place key ≡ value_at ones.records at key

-- what two lists of children have at each byte
abbrev SameBelow : Branching → Branching → List Link → List Link → Type 0
SameBelow ones others cs ds = (byte : ℕ) (rest : List ℕ) → value_in_child (value_at others.records) (child_of byte ds) rest ≡ value_in_child (value_at ones.records) (child_of byte cs) rest

both : (below : ℕ → ℕ → Type 0) (o p : Option Branch) (one other : Branch) → o ≡ Some one → p ≡ Some other → IsAlike below one other → BothAlike below o p
both below o p one other is are alike = rw (is, are) alike

module _ (ones others : Branching) where
  -- no byte is in one of the lists alone
  only-one : (at : ℕ) (cs ds : List Link) (c : Link) → SameBelow ones others cs ds → HasChild ones.records at c → child_of c.0 cs ≡ Some c.1 → child_of c.0 ds ≡ None → ⊥
  only-one at cs ds c same h is none =
      child-has ones at c h (λ rest.
      sym (ap (λ o. value_in_child (value_at ones.records) o rest) is)
      ∙ sym (same c.0 rest)
      ∙ ap (λ o. value_in_child (value_at others.records) o rest) none)

  only-other : (place : ℕ) (cs ds : List Link) (d : Link) → SameBelow ones others cs ds → HasChild others.records place d → child_of d.0 ds ≡ Some d.1 → child_of d.0 cs ≡ None → ⊥
  only-other place cs ds d same h is none =
      child-has others place d h (λ rest.
      sym (ap (λ o. value_in_child (value_at others.records) o rest) is)
      ∙ same d.0 rest
      ∙ ap (λ o. value_in_child (value_at ones.records) o rest) none)

  first-same : (c d : Link) (cs ds : List Link) → c.0 ≡ d.0 → SameBelow ones others (c ∷ cs) (d ∷ ds) → SameValues ones others (number_of c.1) (number_of d.1)
  first-same c d cs ds byte same rest =
      sym (ap (λ o. value_in_child (value_at others.records) o rest) (ap (λ n. child_of n (d ∷ ds)) byte ∙ child-first d ds))
      ∙ same c.0 rest
      ∙ ap (λ o. value_in_child (value_at ones.records) o rest) (child-first c cs)

  rest-same : (c d : Link) (cs ds : List Link) → c.0 ≡ d.0 → rise (c ∷ cs) ≡ true → rise (d ∷ ds) ≡ true → SameBelow ones others (c ∷ cs) (d ∷ ds) → SameBelow ones others cs ds
  rest-same c d cs ds bytes cs_rise ds_rise same byte rest = elim (cases_eq c.0 byte) [
    | inl is ↦
        ap (λ o. value_in_child (value_at others.records) o rest) (none_above byte ds (all_above d ds byte (omega (arith, is, bytes)) ds_rise))
        ∙ sym (ap (λ o. value_in_child (value_at ones.records) o rest) (none_above byte cs (all_above c cs byte (omega (arith, is)) cs_rise)))
    | inr apart ↦
        sym (ap (λ o. value_in_child (value_at others.records) o rest) (child-later byte d ds (λ is. apart (bytes ∙ is))))
        ∙ same byte rest
        ∙ ap (λ o. value_in_child (value_at ones.records) o rest) (child-later byte c cs apart)
  ]

  -- what stands below an address and has the same values is alike
  abbrev Each : (ℕ → ℕ → Type 0) → ℕ → Type 0
  Each below at = (from to : ℕ) → from < at → IsSome (map_at ones.records from) → IsSome (map_at others.records to) → SameValues ones others from to → below from to

  children-alike : (below : ℕ → ℕ → Type 0) (at place : ℕ) → Each below at → (cs ds : List Link) → rise cs ≡ true → rise ds ≡ true → HaveChildren ones.records at cs → HaveChildren others.records place ds → SameBelow ones others cs ds → AreAlike below cs ds
  children-alike below at place each [] [] cs_rise ds_rise cs_have ds_have same = tt
  children-alike below at place each [] (d ∷ ds) cs_rise ds_rise cs_have ds_have same = absurd (only-other place [] (d ∷ ds) d same ds_have.0 (child-first d ds) refl)
  children-alike below at place each (c ∷ cs) [] cs_rise ds_rise cs_have ds_have same = absurd (only-one at (c ∷ cs) [] c same cs_have.0 (child-first c cs) refl)
  children-alike below at place each (c ∷ cs) (d ∷ ds) cs_rise ds_rise cs_have ds_have same = elim (cases_lt c.0 d.0) [
    | inl lt ↦ absurd (only-one at (c ∷ cs) (d ∷ ds) c same cs_have.0 (child-first c cs) (none_above c.0 (d ∷ ds) (lt, all_above d ds c.0 (omega (arith, lt)) ds_rise)))
    | inr ge ↦ elim (cases_lt d.0 c.0) [
      | inl lt ↦ absurd (only-other place (c ∷ cs) (d ∷ ds) d same ds_have.0 (child-first d ds) (none_above d.0 (c ∷ cs) (lt, all_above c cs d.0 (omega (arith, lt)) cs_rise)))
      | inr le ↦
          let byte : c.0 ≡ d.0 = omega (arith, ge, le) in (
            byte,
            each (number_of c.1) (number_of d.1) cs_have.0.lower cs_have.0.map ds_have.0.map (first-same c d cs ds byte same),
            children-alike below at place each cs ds (rise-rest c cs cs_rise) (rise-rest d ds ds_rise) cs_have.1 ds_have.1 (rest-same c d cs ds byte cs_rise ds_rise same),
          )
    ]
  ]

  branches-alike : (below : ℕ → ℕ → Type 0) (at place : ℕ) → Each below at → (s : Stands ones at) (t : Stands others place) → SameValues ones others at place → IsAlike below s.branch t.branch
  branches-alike below at place each s t same =
      let one_front : HasFront s.branch.key t.branch.key = front-of-all ones at s t.branch.key (λ key has. key-begins others place t key (ap is_some (same key) ∙ has)) in
      let other_front : HasFront t.branch.key s.branch.key = front-of-all others place t s.branch.key (λ key has. key-begins ones at s key (sym (ap is_some (same key)) ∙ has)) in
      let keys : s.branch.key ≡ t.branch.key = begins-both s.branch.key t.branch.key one_front other_front in
      record {
        key = keys;
        value = sym (value-own ones at s)
            ∙ sym (same s.branch.key)
            ∙ ap (value_at others.records place) keys
            ∙ value-own others place t;
        children = children-alike below at place each s.branch.children t.branch.children s.here.rises t.here.rises s.below t.below (λ byte rest.
            sym (value-below others place t byte rest)
            ∙ sym (ap (λ k. value_at others.records place (k ++ byte ∷ rest)) keys)
            ∙ same (s.branch.key ++ byte ∷ rest)
            ∙ value-below ones at s byte rest);
      }

  same-within : (depth at place : ℕ) → at < depth → IsSome (map_at ones.records at) → IsSome (map_at others.records place) → SameValues ones others at place → SameWithin depth ones.records others.records at place
  same-within zero at place lt one other same = absurd (omega (arith, lt))
  same-within (suc depth) at place lt one other same =
      let s = stands ones at one in
      let t = stands others place other in
      both (SameWithin depth ones.records others.records) (branch_of (ones.records at)) (branch_of (others.records place)) s.branch t.branch s.here.is t.here.is
      (branches-alike (SameWithin depth ones.records others.records) at place (λ from to lower. same-within depth from to (omega (arith, lower, lt))) s t same)

-- ---- under two roots

map-has : (records : RecordsAt) (root : Address) (map : TrieMap) (key : List ℕ) → trie_map records (Some root) ≡ Some map → get map key ≡ value_at records (number_of root) key
map-has records root map key is = subst (λ (o : Option TrieMap). IfSome o (λ map. get map key ≡ value_at records (number_of root) key)) is (trie_values records root key)

-- under a root there is a key
rooted : (trie : Branching) (root : Address) → trie_map trie.records (Some root) ≡ Some empty → ⊥
rooted trie root is =
    let k = a_key trie (number_of root) (has_pairs trie.records root (ap is_some is)) in
    let none : value_at trie.records (number_of root) k.0 ≡ None = sym (map-has trie.records root empty k.0 is) ∙ get-empty bytes_cmp k.0 in
    let never : false ≡ true = ap is_some (sym none) ∙ k.1 in
    absurd (cc never)

roots-alike : (ones others : Branching) (at place : Option Address) → IsSome (trie_map ones.records at) → trie_map others.records place ≡ trie_map ones.records at → HaveSameShape ones.records others.records at place
roots-alike ones others None None some same = tt
roots-alike ones others None (Some place) some same = absurd (rooted others place same)
roots-alike ones others (Some at) None some same = absurd (rooted ones at (sym same))
roots-alike ones others (Some at) (Some place) some same =
    let m = there (trie_map ones.records (Some at)) (λ none. let never : false ≡ true = sym (ap is_some none) ∙ some in absurd (cc never)) in
    same-within ones others (suc (number_of at)) (number_of at) (number_of place) (omega arith)
    (has_pairs ones.records at some) (has_pairs others.records place (ap is_some same ∙ some))
    (λ key. sym (map-has others.records place m.0 key (same ∙ m.1)) ∙ map-has ones.records at m.0 key m.1)

pub same-shape : (ones others : RecordsAt) (at place : Option Address) → RisesEverywhere ones → BranchesEverywhere ones → RisesEverywhere others → BranchesEverywhere others → IsSome (trie_map ones at) → trie_map others place ≡ trie_map ones at → HaveSameShape ones others at place
same-shape ones others at place ones_rise ones_branch others_rise others_branch some same =
    roots-alike
    (record { records = ones; rises = ones_rise; branches = ones_branch })
    (record { records = others; rises = others_rise; branches = others_branch })
    at place some same
