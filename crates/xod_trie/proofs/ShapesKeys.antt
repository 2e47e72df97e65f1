-- What the keys of one trie tell of each branch: where its key part ends, its value, and that no child is empty.
use Rattle.std.proofs.Common.{◌≡◌, ◌⊎◌, ◌<◌, ◌≤◌, ℕ, zero, suc, List, [], ◌∷◌, ◌++◌, length, true, false, cond, eqb, Option, Some, None, refl, sym, ◌∙◌, ap, arith, inl, inr}
use Rattle.std.specs.Prelude.{IsSome, is_some, IfSome}
use Rattle.std.proofs.lemmas.Bool.{cases_eq}
use Rattle.std.proofs.lemmas.Bool.Decides.{nat_tests}
use Rattle.std.proofs.lemmas.List.{append-nil}
use Rattle.xod_block.specs.Addresses.{number_of}
use Rattle.xod_block.specs.Maps.{RecordsAt, HasRisingChildren, RisesEverywhere, HasEnoughChildren, BranchesEverywhere, map_at}
use Rattle.xod_block.specs.Records.{Link, RecordValue, Leaf, Node, Root, least_children, rise}
use Rattle.xod_block.proofs.CallerLemmas.{rise-parts}
use Rattle.xod_trie.specs.declared.branch.Branch.{Branch}
use Rattle.xod_trie.specs.Branches.{IsBranch, HasChild, HaveChildren, branch_of, behind, child_of, value_in_child, value_behind}
use Rattle.xod_trie.specs.Tries.{value_at}
use Rattle.xod_trie.proofs.Damaged.{no_branch-map}
use Rattle.xod_trie.proofs.Values.{map-down, value_at-by}

-- ---- fronts of keys

abbrev pub HasFront : List ℕ → List ℕ → Type 0
HasFront key front = IsSome (behind front key)

behind-front : (front rest : List ℕ) → behind front (front ++ rest) ≡ Some rest
behind-front [] rest = refl
behind-front (x ∷ front) rest =
    let same : eqb x x ≡ true = grind (arith, nat_tests) in
    ap (λ q. cond q (behind front (front ++ rest)) None) same ∙ behind-front front rest

behind-itself : (key : List ℕ) → behind key key ≡ Some []
behind-itself key = ap (behind key) (sym (append-nil key)) ∙ behind-front key []

-- the first bytes are the same, and so on behind them
begins-cons : (x y : ℕ) (key front : List ℕ) → HasFront (y ∷ key) (x ∷ front) → (x ≡ y) × HasFront key front
begins-cons x y key front b = elim (cases_eq x y) [
  | inl same ↦
      let yes : eqb x y ≡ true = grind (arith, nat_tests) in
      (same, sym (ap (λ q. is_some (cond q (behind front key) None)) yes) ∙ b)
  | inr apart ↦
      let no : eqb x y ≡ false = grind (arith, nat_tests, apart) in
      let never : false ≡ true = sym (ap (λ q. is_some (cond q (behind front key) None)) no) ∙ b in
      absurd (cc never)
]

cons-begins : (x y : ℕ) (key front : List ℕ) → x ≡ y → HasFront key front → HasFront (y ∷ key) (x ∷ front)
cons-begins x y key front same b =
    let yes : eqb x y ≡ true = grind (arith, nat_tests) in
    ap (λ q. is_some (cond q (behind front key) None)) yes ∙ b

-- two that begin with each other
pub begins-both : (key other : List ℕ) → HasFront key other → HasFront other key → key ≡ other
begins-both [] [] a b = refl
begins-both [] (y ∷ other) a b = absurd (cc a)
begins-both (x ∷ key) [] a b = absurd (cc b)
begins-both (x ∷ key) (y ∷ other) a b =
    let h = begins-cons y x key other a in
    let k = begins-cons x y other key b in
    let same : key ≡ other = begins-both key other h.1 k.1 in
    ap (λ n. n ∷ key) k.0 ∙ ap (λ l. y ∷ l) same

-- a front of two keys that part behind a third one is a front of that
begins-parting : (key front : List ℕ) (b c : ℕ) (rest more : List ℕ) → b < c → HasFront (key ++ b ∷ rest) front → HasFront (key ++ c ∷ more) front → HasFront key front
begins-parting key [] b c rest more lt one other = refl
begins-parting [] (x ∷ front) b c rest more lt one other =
    let h = begins-cons x b rest front one in
    let k = begins-cons x c more front other in
    absurd (omega (arith, lt, h.0, k.0))
begins-parting (y ∷ key) (x ∷ front) b c rest more lt one other =
    let h = begins-cons x y (key ++ b ∷ rest) front one in
    let k = begins-cons x y (key ++ c ∷ more) front other in
    cons-begins x y key front h.0 (begins-parting key front b c rest more lt h.1 k.1)

-- ---- branches

branch-rises : (item : Option RecordValue) (branch : Branch) → branch_of item ≡ Some branch → IfSome item HasRisingChildren → rise branch.children ≡ true
branch-rises None branch is up = absurd (cc is)
branch-rises (Some (Leaf key value)) branch is up =
    let same : [] ≡ branch.children = cc is in
    ap rise (sym same)
branch-rises (Some (Node key value children)) branch is up =
    let same : children ≡ branch.children = cc is in
    ap rise (sym same) ∙ up
branch-rises (Some (Root commit trees)) branch is up = absurd (cc is)

branch-enough : (item : Option RecordValue) (branch : Branch) → branch_of item ≡ Some branch → IfSome item HasEnoughChildren → branch.value ≡ None → 2 ≤ length branch.children
branch-enough None branch is enough none = absurd (cc is)
branch-enough (Some (Leaf key value)) branch is enough none =
    let same : Some value ≡ branch.value = cc is in
    absurd (cc (same, none))
branch-enough (Some (Node key value children)) branch is enough none =
    let same : children ≡ branch.children = cc is in
    let without : value ≡ None = cc (is, none) in
    let two : least_children value ≡ 2 = ap least_children without in
    let long : length children ≡ length branch.children = ap length same in
    omega (arith, enough, two, long)
branch-enough (Some (Root commit trees)) branch is enough none = absurd (cc is)

-- what is not absent
pub there : {A : Type 0} (o : Option A) → (o ≡ None → ⊥) → (x : A) × (o ≡ Some x)
there None f = absurd (f refl)
there (Some x) f = (x, refl)

-- two children that have keys, the first under the lower byte
pub record Parts (records : RecordsAt) (at : ℕ) (children : List Link) : Type 0 where
  pub one : Link
  pub other : Link
  pub lower : one.0 < other.0
  pub one_is : child_of one.0 children ≡ Some one.1
  pub other_is : child_of other.0 children ≡ Some other.1
  pub one_has : HasChild records at one
  pub other_has : HasChild records at other

pub child-first : (child : Link) (children : List Link) → child_of child.0 (child ∷ children) ≡ Some child.1
child-first child children =
    let same : eqb child.0 child.0 ≡ true = grind (arith, nat_tests) in
    ap (λ q. cond q (Some child.1) (child_of child.0 children)) same

pub child-later : (byte : ℕ) (child : Link) (children : List Link) → (child.0 ≡ byte → ⊥) → child_of byte (child ∷ children) ≡ child_of byte children
child-later byte child children apart =
    let no : eqb child.0 byte ≡ false = grind (arith, nat_tests, apart) in
    ap (λ q. cond q (Some child.1) (child_of byte children)) no

value-or-parts : (records : RecordsAt) (at : ℕ) (value : Option (List ℕ)) (children : List Link) → (value ≡ None → 2 ≤ length children) → rise children ≡ true → HaveChildren records at children → IsSome value ⊎ Parts records at children
value-or-parts records at (Some value) children enough up have = inl refl
value-or-parts records at None [] enough up have = absurd (omega (arith, enough refl))
value-or-parts records at None (one ∷ []) enough up have = absurd (omega (arith, enough refl))
value-or-parts records at None (one ∷ other ∷ children) enough up have =
    let h = rise-parts one other children up in
    inr (record {
      one = one;
      other = other;
      lower = h.0;
      one_is = child-first one (other ∷ children);
      other_is = child-later other.0 one (other ∷ children) (λ same. omega (arith, h.0, same)) ∙ child-first other children;
      one_has = have.0;
      other_has = have.1.0;
    })

behind-some : (below : ℕ → List ℕ → Option (List ℕ)) (value : Option (List ℕ)) (children : List Link) (o : Option (List ℕ)) → IsSome (value_behind below value children o) → IsSome o
behind-some below value children None some = some
behind-some below value children (Some rest) some = refl

-- ---- one trie

-- records among which child bytes rise, and each node has a value and one child, or two children
pub record Branching : Type 0 where
  pub records : RecordsAt
  pub rises : RisesEverywhere records
  pub branches : BranchesEverywhere records

module _ (trie : Branching) where
  -- the map has this key
  abbrev pub Has : ℕ → List ℕ → Type 0
  Has at key = IsSome (value_at trie.records at key)

  -- the branch at an address with a map
  pub record Stands (at : ℕ) : Type 0 where
    pub map : IsSome (map_at trie.records at)
    pub branch : Branch
    pub here : IsBranch (trie.records at) branch
    pub below : HaveChildren trie.records at branch.children
    pub ends : IsSome branch.value ⊎ Parts trie.records at branch.children

  pub stands : (at : ℕ) → IsSome (map_at trie.records at) → Stands at
  stands at some =
      let b = there (branch_of (trie.records at)) (λ none. no_branch-map trie.records at none some) in
      let up = branch-rises (trie.records at) b.0 b.1 (trie.rises at) in
      let below = map-down trie.records at b.0 some b.1 in
      record {
        map = some;
        branch = b.0;
        here = record { is = b.1; rises = up };
        below = below;
        ends = value-or-parts trie.records at b.0.value b.0.children (branch-enough (trie.records at) b.0 b.1 (trie.branches at)) up below;
      }

  pub value-own : (at : ℕ) (s : Stands at) → value_at trie.records at s.branch.key ≡ s.branch.value
  value-own at s =
      value_at-by trie.records at s.branch s.branch.key s.map s.here
      ∙ ap (value_behind (value_at trie.records) s.branch.value s.branch.children) (behind-itself s.branch.key)

  pub value-below : (at : ℕ) (s : Stands at) (byte : ℕ) (rest : List ℕ) → value_at trie.records at (s.branch.key ++ byte ∷ rest) ≡ value_in_child (value_at trie.records) (child_of byte s.branch.children) rest
  value-below at s byte rest =
      value_at-by trie.records at s.branch (s.branch.key ++ byte ∷ rest) s.map s.here
      ∙ ap (value_behind (value_at trie.records) s.branch.value s.branch.children) (behind-front s.branch.key (byte ∷ rest))

  -- a key of a child, behind the byte
  has-below : (at : ℕ) (s : Stands at) (child : Link) (rest : List ℕ) → child_of child.0 s.branch.children ≡ Some child.1 → Has (number_of child.1) rest → Has at (s.branch.key ++ child.0 ∷ rest)
  has-below at s child rest is has =
      ap is_some (value-below at s child.0 rest ∙ ap (λ o. value_in_child (value_at trie.records) o rest) is) ∙ has

  -- no map is empty
  key-within : (depth at : ℕ) → at < depth → IsSome (map_at trie.records at) → (key : List ℕ) × Has at key
  key-within zero at lt some = absurd (omega (arith, lt))
  key-within (suc depth) at lt some =
      let s = stands at some in
      elim s.ends [
        | inl value ↦ (s.branch.key, ap is_some (value-own at s) ∙ value)
        | inr parts ↦
            let h = key-within depth (number_of parts.one.1) (omega (arith, lt, parts.one_has.lower)) parts.one_has.map in
            (s.branch.key ++ parts.one.0 ∷ h.0, has-below at s parts.one h.0 parts.one_is h.1)
      ]

  pub a_key : (at : ℕ) → IsSome (map_at trie.records at) → (key : List ℕ) × Has at key
  a_key at some = key-within (suc at) at (omega arith) some

  -- so no child is without a value
  pub child-has : (at : ℕ) (child : Link) → HasChild trie.records at child → ((rest : List ℕ) → value_at trie.records (number_of child.1) rest ≡ None) → ⊥
  child-has at child h none =
      let k = a_key (number_of child.1) h.map in
      let never : false ≡ true = ap is_some (sym (none k.0)) ∙ k.1 in
      absurd (cc never)

  -- each key begins with the key part, and a front of all keys is one of the key part
  pub key-begins : (at : ℕ) (s : Stands at) (key : List ℕ) → Has at key → HasFront key s.branch.key
  key-begins at s key has =
      behind-some (value_at trie.records) s.branch.value s.branch.children (behind s.branch.key key) (sym (ap is_some (value_at-by trie.records at s.branch key s.map s.here)) ∙ has)

  pub front-of-all : (at : ℕ) (s : Stands at) (front : List ℕ) → ((key : List ℕ) → Has at key → HasFront key front) → HasFront s.branch.key front
  front-of-all at s front all = elim s.ends [
    | inl value ↦ all s.branch.key (ap is_some (value-own at s) ∙ value)
    | inr parts ↦
        let one = a_key (number_of parts.one.1) parts.one_has.map in
        let other = a_key (number_of parts.other.1) parts.other_has.map in
        begins-parting s.branch.key front parts.one.0 parts.other.0 one.0 other.0 parts.lower
        (all (s.branch.key ++ parts.one.0 ∷ one.0) (has-below at s parts.one one.0 parts.one_is one.1))
        (all (s.branch.key ++ parts.other.0 ∷ other.0) (has-below at s parts.other other.0 parts.other_is other.1))
  ]
