-- The value at a key by the record there, and which branches have a map.
use Rattle.std.proofs.Common.{◌≡◌, ℕ, List, [], ◌∷◌, ◌++◌, Bool, true, false, cond, ltb, eqb, Option, Some, None, refl, sym, ◌∙◌, ap, arith, inl, inr}
use Rattle.std.specs.Prelude.{IsSome, is_some}
use Rattle.std.specs.Option.{option_map}
use Rattle.std.specs.FinMap.{find}
use Rattle.std.proofs.lemmas.Bool.{cases_eq, lt-ltb}
use Rattle.std.proofs.lemmas.Bool.Decides.{nat_tests}
use Rattle.std.proofs.lemmas.List.{append-nil}
use Rattle.xod_base.specs.Values.{bytes_cmp}
use Rattle.xod_block.specs.Addresses.{number_of}
use Rattle.xod_block.specs.Maps.{RecordsAt, Pairs, under, own_pair, joined, pairs_of_children, pairs_of_node, pairs_of, map_at}
use Rattle.xod_block.specs.Records.{Link, RecordValue, Leaf, Node, Root, rise}
use Rattle.xod_block.proofs.CallerLemmas.{map_at-step, children-join, rise-rest}
use Rattle.xod_trie.specs.declared.branch.Branch.{Branch}
use Rattle.xod_trie.specs.Branches.{branch_of, behind, child_of, value_in_child, value_behind, value_by, IsBranch, HaveChildren}
use Rattle.xod_trie.specs.Tries.{value_in, value_at}
use Rattle.xod_trie.proofs.Keys.{or_else, or_none, find-both, find_behind, find-under, all_above, none_above}

-- ---- the pairs of a branch

abbrev pub pairs_by : (ℕ → Option Pairs) → ℕ → Option Branch → Option Pairs
pairs_by below at None = None
pairs_by below at (Some branch) = pairs_of_node below at branch.key branch.value branch.children

pairs_of-by : (below : ℕ → Option Pairs) (at : ℕ) (o : Option RecordValue) → pairs_of below at o ≡ pairs_by below at (branch_of o)
pairs_of-by below at None = refl
pairs_of-by below at (Some (Leaf key value)) = ap (λ (k : List ℕ). Some ((k, value) ∷ [])) (sym (append-nil key))
pairs_of-by below at (Some (Node key value children)) = refl
pairs_of-by below at (Some (Root commit trees)) = refl

pub map_at-by : (records : RecordsAt) (at : ℕ) → map_at records at ≡ pairs_by (map_at records) at (branch_of (records at))
map_at-by records at = map_at-step records at ∙ pairs_of-by (map_at records) at (records at)

pub map_at-branch : (records : RecordsAt) (at : ℕ) (b : Branch) → branch_of (records at) ≡ Some b → map_at records at ≡ pairs_of_node (map_at records) at b.key b.value b.children
map_at-branch records at b is = map_at-by records at ∙ ap (pairs_by (map_at records) at) is

-- ---- the value among children

no_pairs : (ps : Pairs) → Some [] ≡ Some ps → ps ≡ []
no_pairs ps e = cc e

children-nil : (below : ℕ → Option Pairs) (at : ℕ) (cs : List Link) (ps : Pairs) → pairs_of_children below at cs ≡ Some ps → find bytes_cmp [] ps ≡ None
children-nil below at [] ps e = ap (find bytes_cmp []) (no_pairs ps e)
children-nil below at (c ∷ cs) ps e =
    let j = children-join below at c cs ps e in
    ap (find bytes_cmp []) j.whole
    ∙ find-both (under (c.0 ∷ []) j.first) j.others []
    ∙ ap (λ v. or_else v (find bytes_cmp [] j.others)) (find-under (c.0 ∷ []) j.first [])
    ∙ children-nil below at cs j.others j.others_is

abbrev values : (ℕ → Option Pairs) → ℕ → List ℕ → Option (List ℕ)
values below at key = value_in (below at) key

children-value : (below : ℕ → Option Pairs) (at : ℕ) (cs : List Link) (ps : Pairs) (b : ℕ) (rest : List ℕ) → pairs_of_children below at cs ≡ Some ps → rise cs ≡ true → find bytes_cmp (b ∷ rest) ps ≡ value_in_child (values below) (child_of b cs) rest
children-value below at [] ps b rest e r = ap (find bytes_cmp (b ∷ rest)) (no_pairs ps e)
children-value below at (c ∷ cs) ps b rest e r =
    let j = children-join below at c cs ps e in
    let later = children-value below at cs j.others b rest j.others_is (rise-rest c cs r) in
    let whole : find bytes_cmp (b ∷ rest) ps ≡ or_else (find_behind (cond (eqb c.0 b) (Some rest) None) j.first) (find bytes_cmp (b ∷ rest) j.others) =
    ap (find bytes_cmp (b ∷ rest)) j.whole
    ∙ find-both (under (c.0 ∷ []) j.first) j.others (b ∷ rest)
    ∙ ap (λ v. or_else v (find bytes_cmp (b ∷ rest) j.others)) (find-under (c.0 ∷ []) j.first (b ∷ rest)) in
    elim (cases_eq c.0 b) [
      | inl eq ↦
          let yes : eqb c.0 b ≡ true = grind (arith, nat_tests) in
          let none : find bytes_cmp (b ∷ rest) j.others ≡ None = later ∙ ap (λ o. value_in_child (values below) o rest) (none_above b cs (all_above c cs b (omega (arith, eq)) r)) in
          whole
          ∙ ap (λ (q : Bool). or_else (find_behind (cond q (Some rest) None) j.first) (find bytes_cmp (b ∷ rest) j.others)) yes
          ∙ ap (λ v. or_else (find bytes_cmp rest j.first) v) none
          ∙ or_none (find bytes_cmp rest j.first)
          ∙ sym (ap (λ (q : Bool). value_in_child (values below) (cond q (Some c.1) (child_of b cs)) rest) yes ∙ ap (λ o. value_in o rest) j.first_is)
      | inr ne ↦
          let no : eqb c.0 b ≡ false = grind (arith, nat_tests) in
          whole
          ∙ ap (λ (q : Bool). or_else (find_behind (cond q (Some rest) None) j.first) (find bytes_cmp (b ∷ rest) j.others)) no
          ∙ later
          ∙ sym (ap (λ (q : Bool). value_in_child (values below) (cond q (Some c.1) (child_of b cs)) rest) no)
    ]

own-nil : (v : Option (List ℕ)) (ps : Pairs) → find bytes_cmp [] ps ≡ None → find bytes_cmp [] (own_pair v ++ ps) ≡ v
own-nil None ps e = e
own-nil (Some v) ps e = refl

own-longer : (v : Option (List ℕ)) (ps : Pairs) (b : ℕ) (rest : List ℕ) → find bytes_cmp (b ∷ rest) (own_pair v ++ ps) ≡ find bytes_cmp (b ∷ rest) ps
own-longer None ps b rest = refl
own-longer (Some v) ps b rest = refl

behind-value : (below : ℕ → Option Pairs) (at : ℕ) (v : Option (List ℕ)) (cs : List Link) (ps : Pairs) (o : Option (List ℕ)) → pairs_of_children below at cs ≡ Some ps → rise cs ≡ true → find_behind o (own_pair v ++ ps) ≡ value_behind (values below) v cs o
behind-value below at v cs ps None e r = refl
behind-value below at v cs ps (Some []) e r = own-nil v ps (children-nil below at cs ps e)
behind-value below at v cs ps (Some (b ∷ rest)) e r = own-longer v ps b rest ∙ children-value below at cs ps b rest e r

node-value : (below : ℕ → Option Pairs) (at : ℕ) (b : Branch) (o : Option Pairs) (key : List ℕ) → pairs_of_children below at b.children ≡ o → rise b.children ≡ true → IsSome (option_map (λ pairs. under b.key (own_pair b.value ++ pairs)) o)
    → value_in (option_map (λ pairs. under b.key (own_pair b.value ++ pairs)) o) key ≡ value_by (values below) b key
node-value below at b None key e r some = absurd cc
node-value below at b (Some ps) key e r some = find-under b.key (own_pair b.value ++ ps) key ∙ behind-value below at b.value b.children ps (behind b.key key) e r

pub value_at-by : (records : RecordsAt) (at : ℕ) (b : Branch) (key : List ℕ) → IsSome (map_at records at) → IsBranch (records at) b → value_at records at key ≡ value_by (value_at records) b key
value_at-by records at b key some here =
    let pairs = map_at-branch records at b here.is in
    ap (λ (o : Option Pairs). value_in o key) pairs
    ∙ node-value (map_at records) at b (pairs_of_children (map_at records) at b.children) key refl here.rises (sym (ap is_some pairs) ∙ some)

-- ---- which branches have a map

mapped_some : (o : Option Pairs) (f : Pairs → Pairs) → is_some (option_map f o) ≡ is_some o
mapped_some None f = refl
mapped_some (Some ps) f = refl

joined-some : (o : Option Pairs) (f : Pairs → Pairs) (p : Option Pairs) → is_some o ≡ true → is_some p ≡ true → is_some (joined (option_map f o) p) ≡ true
joined-some None f p a b = a
joined-some (Some x) f None a b = b
joined-some (Some x) f (Some y) a b = refl

joined-parts : (q : Bool) (o : Option Pairs) (f : Pairs → Pairs) (p : Option Pairs) → is_some (cond q (joined (option_map f o) p) None) ≡ true → (q ≡ true) × (is_some o ≡ true) × (is_some p ≡ true)
joined-parts true None f p e = absurd cc
joined-parts true (Some x) f None e = absurd cc
joined-parts true (Some x) f (Some y) e = (refl, refl, refl)
joined-parts false o f p e = absurd cc

children-have : (records : RecordsAt) (at : ℕ) (cs : List Link) → is_some (pairs_of_children (map_at records) at cs) ≡ true → HaveChildren records at cs
children-have records at [] e = tt
children-have records at (c ∷ cs) e =
    let h = joined-parts (ltb (number_of c.1) at) (map_at records (number_of c.1)) (under (c.0 ∷ [])) (pairs_of_children (map_at records) at cs) e in
    (record { lower = (let t = h.0 in grind (arith, nat_tests)); map = h.1 }, children-have records at cs h.2)

have-children : (records : RecordsAt) (at : ℕ) (cs : List Link) → HaveChildren records at cs → is_some (pairs_of_children (map_at records) at cs) ≡ true
have-children records at [] h = refl
have-children records at (c ∷ cs) h =
    let yes : ltb (number_of c.1) at ≡ true = lt-ltb _ _ h.0.lower in
    ap (λ (q : Bool). is_some (cond q (joined (option_map (under (c.0 ∷ [])) (map_at records (number_of c.1))) (pairs_of_children (map_at records) at cs)) None)) yes
    ∙ joined-some (map_at records (number_of c.1)) (under (c.0 ∷ [])) (pairs_of_children (map_at records) at cs) h.0.map (have-children records at cs h.1)

node-some : (records : RecordsAt) (at : ℕ) (b : Branch) → branch_of (records at) ≡ Some b → is_some (map_at records at) ≡ is_some (pairs_of_children (map_at records) at b.children)
node-some records at b is = ap is_some (map_at-branch records at b is) ∙ mapped_some (pairs_of_children (map_at records) at b.children) (λ pairs. under b.key (own_pair b.value ++ pairs))

pub map-down : (records : RecordsAt) (at : ℕ) (b : Branch) → IsSome (map_at records at) → branch_of (records at) ≡ Some b → HaveChildren records at b.children
map-down records at b some is = children-have records at b.children (sym (node-some records at b is) ∙ some)

pub map-up : (records : RecordsAt) (at : ℕ) (b : Branch) → branch_of (records at) ≡ Some b → HaveChildren records at b.children → IsSome (map_at records at)
map-up records at b is h = node-some records at b is ∙ have-children records at b.children h
