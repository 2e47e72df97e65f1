-- A branch with one child, and both in one.
use Rattle.std.proofs.Common.{◌≡◌, ◌<◌, ◌≤◌, ℕ, zero, suc, ◌+◌, ◌^◌, List, [], ◌∷◌, ◌++◌, length, Bool, true, false, cond, eqb, Option, Some, None, refl, sym, ◌∙◌, ap, subst, arith, inl, inr}
use Rattle.std.specs.Prelude.{IsSome, is_some, IfSome}
use Rattle.std.proofs.lemmas.Bool.{cases_eq}
use Rattle.std.proofs.lemmas.Bool.Decides.{nat_tests}
use Rattle.std.proofs.lemmas.List.{append-nil, length-append}
use Rattle.xod_block.specs.declared.address.Address.{Address}
use Rattle.xod_block.specs.Addresses.{number_of}
use Rattle.xod_block.specs.Maps.{RecordsAt, map_at, HasRisingChildren, RisesEverywhere, HasEnoughChildren, BranchesEverywhere}
use Rattle.xod_block.specs.Records.{Link, RecordValue, Leaf, Node, Root, least_children, rise}
use Rattle.xod_trie.specs.declared.branch.Branch.{Branch}
use Rattle.xod_trie.specs.Branches.{IsBranch, branch_of, behind, child_of, value_in_child, value_behind, value_by}
use Rattle.xod_trie.specs.Tries.{value_at}
use Rattle.xod_trie.proofs.CallerLemmas.{no_branch-map, value_at-by, map-down}
use Rattle.xod_trie_mut.specs.Fingers.{Below, HaveMaps, ValuesFit, AreLower}
use Rattle.xod_trie_mut.specs.Links.{both_in_one, HasOne}
use Rattle.xod_trie_mut.specs.Own.{IsLower, with_own}
use Rattle.xod_trie_mut.specs.Settling.{IsLoaded, IsMerged}
use Rattle.xod_trie_mut.proofs.OwnLemmas.{branch-maps}

-- ---- fronts

pub behind-whole : (front key rest : List ℕ) → behind front key ≡ Some rest → key ≡ front ++ rest
behind-whole [] key rest e = cc e
behind-whole (x ∷ front) [] rest e = absurd cc
behind-whole (x ∷ front) (y ∷ key) rest e = elim (cases_eq x y) [
  | inl same ↦
      let yes : eqb x y ≡ true = grind (arith, nat_tests) in
      let there : behind front key ≡ Some rest = sym (ap (λ (q : Bool). cond q (behind front key) None) yes) ∙ e in
      ap (λ (z : ℕ). z ∷ key) (sym same) ∙ ap (λ (l : List ℕ). x ∷ l) (behind-whole front key rest there)
  | inr apart ↦
      let no : eqb x y ≡ false = grind (arith, nat_tests, apart) in
      let nothing : None ≡ Some rest = sym (ap (λ (q : Bool). cond q (behind front key) None) no) ∙ e in absurd cc
]

pub behind-front : (front rest : List ℕ) → behind front (front ++ rest) ≡ Some rest
behind-front [] rest = refl
behind-front (x ∷ front) rest = let yes : eqb x x ≡ true = grind (arith, nat_tests) in rw yes (behind-front front rest)

-- ---- two branches in one

abbrev pub further : ℕ → List ℕ → Option (List ℕ) → Option (List ℕ)
further b y None = None
further b y (Some []) = None
further b y (Some (c ∷ r)) = cond (eqb b c) (behind y r) None

further-cond : (b : ℕ) (y : List ℕ) (q : Bool) (o : Option (List ℕ)) → cond q (further b y o) None ≡ further b y (cond q o None)
further-cond b y true o = refl
further-cond b y false o = refl

pub behind-join : (x : List ℕ) (b : ℕ) (y key : List ℕ) → behind (x ++ b ∷ y) key ≡ further b y (behind x key)
behind-join [] b y [] = refl
behind-join [] b y (c ∷ key) = refl
behind-join (z ∷ x) b y [] = refl
behind-join (z ∷ x) b y (c ∷ key) = ap (λ (o : Option (List ℕ)). cond (eqb z c) o None) (behind-join x b y key) ∙ further-cond b y (eqb z c) (behind x key)

one_way : (f : Below) (q : Branch) (b : ℕ) (a : Address) (o : Option (List ℕ)) → ((r : List ℕ) → f (number_of a) r ≡ value_by f q r) → value_behind f q.value q.children (further b q.key o) ≡ value_behind f None ((b, a) ∷ []) o
one_way f q b a None same = refl
one_way f q b a (Some []) same = refl
one_way f q b a (Some (c ∷ r)) same = elim (eqb b c) as (λ t. value_behind f q.value q.children (cond t (behind q.key r) None) ≡ value_in_child f (cond t (Some a) None) r) [
  | true ↦ sym (same r)
  | false ↦ refl
]

-- a branch without a value and with one child has the values of both in one
pub joined : (f : Below) (p q : Branch) (b : ℕ) (a : Address) → HasOne p (b, a) → ((r : List ℕ) → f (number_of a) r ≡ value_by f q r)
    → (k : List ℕ) → value_by f (both_in_one p.key b q) k ≡ value_by f p k
joined f p q b a one same k =
    ap (value_behind f q.value q.children) (behind-join p.key b q.key k)
    ∙ one_way f q b a (behind p.key k) same
    ∙ ap (λ (v : Option (List ℕ)). value_behind f v ((b, a) ∷ []) (behind p.key k)) (sym one.value)
    ∙ ap (λ (cs : List Link). value_behind f p.value cs (behind p.key k)) (sym one.children)

-- ---- merging

pub one-map : (R : RecordsAt) (b : Branch) (c : Link) → HaveMaps R b.children → HasOne b c → IsSome (map_at R (number_of c.1))
one-map R b c maps one = let h : HaveMaps R (c ∷ []) = subst (HaveMaps R) one.children maps in h.0

pub one-lower : (base : Option Address) (n : ℕ) (b : Branch) (c : Link) → AreLower base n b.children → HasOne b c → IsLower base n c.1
one-lower base n b c lower one = let h : AreLower base n (c ∷ []) = subst (AreLower base n) one.children lower in h.0

pub merged-one : (tells : Bool) (R : RecordsAt) (base : Option Address) (own : List Branch) (b child both : Branch) (c : Link) → HasOne b c → IsLoaded tells R base own c.1 child → both ≡ both_in_one b.key c.0 child → IsMerged tells R base own b both
merged-one tells R base own b child both c one l is = subst (IsMerged tells R base own b) (sym is) (record {
  lower = l.lower;
  enough = l.enough;
  alike = λ told maps.
      let some = one-map (with_own own R) b c maps one in
      record {
        maps = branch-maps (with_own own R) (number_of c.1) child some (l.here told);
        value = λ k. joined (value_at (with_own own R)) b child c.0 c.1 one (λ r. value_at-by (with_own own R) (number_of c.1) child r some (l.here told)) k;
      };
})

-- ---- no map is empty

some_value : (o : Option (List ℕ)) → (IsSome o → ⊥) → o ≡ None
some_value None f = refl
some_value (Some v) f = absurd (f refl)

-- the value of a branch is that of its key part
own-value : (f : Below) (b : Branch) (v : List ℕ) → b.value ≡ Some v → value_by f b b.key ≡ Some v
own-value f b v is = ap (λ (k : List ℕ). value_by f b k) (sym (append-nil b.key)) ∙ ap (value_behind f b.value b.children) (behind-front b.key []) ∙ is

child-value : (f : Below) (b : Branch) (c : Link) (cs : List Link) (k : List ℕ) → b.children ≡ c ∷ cs → value_by f b (b.key ++ c.0 ∷ k) ≡ f (number_of c.1) k
child-value f b c cs k is =
    let yes : eqb c.0 c.0 ≡ true = grind (arith, nat_tests) in
    ap (value_behind f b.value b.children) (behind-front b.key (c.0 ∷ k))
    ∙ ap (λ (l : List Link). value_in_child f (child_of c.0 l) k) is
    ∙ ap (λ (q : Bool). value_in_child f (cond q (Some c.1) (child_of c.0 cs)) k) yes

pub record HasKey (R : RecordsAt) (at : ℕ) : Type 0 where
  pub key : List ℕ
  pub there : IsSome (value_at R at key)

module _ (R : RecordsAt) (branches : BranchesEverywhere R) (rises : RisesEverywhere R) where
  by-branch : (at : ℕ) (b : Branch) → IsSome (map_at R at) → IsBranch (R at) b → ((v : List ℕ) → b.value ≡ Some v → HasKey R at) × ((c : Link) (cs : List Link) → b.children ≡ c ∷ cs → HasKey R (number_of c.1) → HasKey R at)
  by-branch at b some here = (
    λ v is. record { key = b.key; there = ap is_some (value_at-by R at b b.key some here ∙ own-value (value_at R) b v is) },
    λ c cs is h. record { key = b.key ++ c.0 ∷ h.key; there = ap is_some (value_at-by R at b (b.key ++ c.0 ∷ h.key) some here ∙ child-value (value_at R) b c cs h.key is) ∙ h.there },
  )

  by-node : (at : ℕ) → IsSome (map_at R at) → ((n : ℕ) → n < at → IsSome (map_at R n) → HasKey R n) → (key : List ℕ) (value : Option (List ℕ)) (cs : List Link) → R at ≡ Some (Node key value cs) → least_children value ≤ length cs → rise cs ≡ true → HasKey R at
  by-node at some below key (Some v) cs is enough r = (by-branch at (record { key = key; value = Some v; children = cs }) some (record { is = ap branch_of is; rises = r })).0 v refl
  by-node at some below key None [] is enough r = absurd (omega (arith, enough))
  by-node at some below key None (c ∷ cs) is enough r =
      let b : Branch = record { key = key; value = None; children = c ∷ cs } in
      let h = (map-down R at b some (ap branch_of is)).0 in
      (by-branch at b some (record { is = ap branch_of is; rises = r })).1 c cs refl (below (number_of c.1) h.lower h.map)

  by-item : (at : ℕ) → IsSome (map_at R at) → ((n : ℕ) → n < at → IsSome (map_at R n) → HasKey R n) → (o : Option RecordValue) → R at ≡ o → HasKey R at
  by-item at some below None is = absurd (no_branch-map R at (ap branch_of is) some)
  by-item at some below (Some (Leaf key value)) is = (by-branch at (record { key = key; value = Some value; children = [] }) some (record { is = ap branch_of is; rises = refl })).0 value refl
  by-item at some below (Some (Node key value cs)) is = by-node at some below key value cs is (subst (λ (o : Option RecordValue). IfSome o HasEnoughChildren) is (branches at)) (subst (λ (o : Option RecordValue). IfSome o HasRisingChildren) is (rises at))
  by-item at some below (Some (Root commit trees)) is = absurd (no_branch-map R at (ap branch_of is) some)

  key-of : (bound at : ℕ) → at < bound → IsSome (map_at R at) → HasKey R at
  key-of zero at lt some = absurd (omega (arith, lt))
  key-of (suc bound) at lt some = by-item at some (λ n l s. key-of bound n (omega (arith, l, lt)) s) (R at) refl

  pub has-key : (at : ℕ) → IsSome (map_at R at) → HasKey R at
  has-key at some = key-of (suc at) at (omega arith) some

  in_front : (f : Below) (b : Branch) (o : Option (List ℕ)) (k : List ℕ) → behind b.key k ≡ o → IsSome (value_behind f b.value b.children o) → length b.key ≤ length k
  in_front f b None k is some = absurd cc
  in_front f b (Some rest) k is some = let e = ap length (behind-whole b.key k rest is) in let n = length-append b.key rest in omega (arith, e, n)

  -- so two branches whose key part would be too long have a key that is
  pub too-long : (b child : Branch) (c : Link) → HasOne b c → HaveMaps R b.children → IsBranch (R (number_of c.1)) child → 2 ^ 16 ≤ length b.key + 1 + length child.key → ValuesFit (value_by (value_at R) b) → ⊥
  too-long b child c one maps here long fits =
      let some = one-map R b c maps one in
      let h = has-key (number_of c.1) some in
      let le : length child.key ≤ length h.key = in_front (value_at R) child (behind child.key h.key) h.key refl (ap is_some (sym (value_at-by R (number_of c.1) child h.key some here)) ∙ h.there) in
      let whole = fits (b.key ++ c.0 ∷ h.key) (ap is_some (child-value (value_at R) b c [] h.key one.children) ∙ h.there) in
      let n = length-append b.key (c.0 ∷ h.key) in
      absurd (omega (arith, le, whole, n, long))
