-- Branches in memory as records.
use Rattle.std.proofs.Common.{◌≡◌, ◌<◌, ◌≤◌, ℕ, ◌+◌, ◌-◌, ◌^◌, zero, suc, List, [], ◌∷◌, ◌++◌, length, Bool, true, false, cond, ltb, eqb, Option, Some, None, slice_get, take, ◌⊎◌, refl, sym, ◌∙◌, ap, subst, arith, inl, inr}
use Rattle.std.specs.Prelude.{IsSome, is_some, IsTrue, IfSome}
use Rattle.std.specs.List.{AllByRecursion}
use Rattle.std.specs.Option.{option_and_then, option_map}
use Rattle.std.specs.FinMap.{from_entries}
use Rattle.std.proofs.lemmas.Bool.{cases_lt, le-ltb, lt-ltb, leb-true, and_parts}
use Rattle.std.proofs.lemmas.Option.{slice_get_past}
use Rattle.std.proofs.lemmas.List.{append-nil, append_assoc, length-append}
use Rattle.std.proofs.Math.Seq.{take-append_seam}
use Rattle.xod_base.specs.Values.{bytes_cmp}
use Rattle.xod_block.specs.declared.address.Address.{Address}
use Rattle.xod_block.specs.Addresses.{number_of}
use Rattle.xod_block.specs.Maps.{RecordsAt, map_at, HasRisingChildren, RisesEverywhere, HasEnoughChildren, BranchesEverywhere}
use Rattle.xod_block.specs.Records.{Link, RecordValue, rise}
use Rattle.xod_block.proofs.CallerLemmas.{map_at-agree, map_at-more}
use Rattle.xod_trie.specs.declared.branch.Branch.{Branch}
use Rattle.xod_trie.specs.Branches.{IsBranch, branch_of, child_of, value_by, value_behind, value_in_child, behind, HaveChildren}
use Rattle.xod_trie.specs.Tries.{trie_map, value_at, value_in}
use Rattle.xod_trie.proofs.CallerLemmas.{no_branch-map, value_at-by, map-down, map-up}
use Rattle.xod_trie_mut.specs.Fingers.{HaveMaps, StandsFor, Extends, AreLower, has_map, value_under, Below}
use Rattle.xod_trie_mut.specs.Own.{record_by, record_as, are_enough, is_whole, record_of, own_file, own_address, is_saved, own_start, with_own, IsBelowBase, IsBefore, IsLowerBy, IsLower, IsOwn, AreOwn, IsRoot}

-- ---- records below, and branches from there on

pub saved_read : (own : List Branch) (R : RecordsAt) (n : ℕ) → n < own_start → with_own own R n ≡ R n
saved_read own R n lt = ap (λ (q : Bool). cond q (R n) (option_and_then record_of (slice_get own (n - own_start)))) (lt-ltb n own_start lt)

pub own_read : (own : List Branch) (R : RecordsAt) (n i : ℕ) → n ≡ own_start + i → with_own own R n ≡ option_and_then record_of (slice_get own i)
own_read own R n i e =
    let no : ltb n own_start ≡ false = le-ltb n own_start (omega (arith, e)) in
    let off : n - own_start ≡ i = omega (arith, e) in
    ap (λ (q : Bool). cond q (R n) (option_and_then record_of (slice_get own (n - own_start)))) no ∙ ap (λ (j : ℕ). option_and_then record_of (slice_get own j)) off

-- a trie with nothing changed
pub untouched-map : (R : RecordsAt) (root : Option Address) → IfSome root (λ at. number_of at < own_start) → trie_map (with_own [] R) root ≡ trie_map R root
untouched-map R None lt = refl
untouched-map R (Some a) lt = ap (option_map (λ pairs. from_entries {R = bytes_cmp} pairs)) (map_at-agree (with_own [] R) R (number_of a) (λ n le. saved_read [] R n (omega (arith, le, lt))))

-- ---- what is lower

lower-more-by : (q : Bool) (base : Option Address) (m n : ℕ) (a : Address) → m ≤ n → IsLowerBy q base m a → IsLowerBy q base n a
lower-more-by true base m n a le h = h
lower-more-by false base m n a le h = record { own = h.own; before = let lt = h.before in omega (arith, lt, le) }

pub lower-more : (base : Option Address) (m n : ℕ) (a : Address) → m ≤ n → IsLower base m a → IsLower base n a
lower-more base m n a le h = lower-more-by (is_saved a) base m n a le h

pub all_lower-more : (base : Option Address) (m n : ℕ) (cs : List Link) → m ≤ n → AreLower base m cs → AreLower base n cs
all_lower-more base m n [] le h = tt
all_lower-more base m n (c ∷ cs) le h = (lower-more base m n c.1 le h.0, all_lower-more base m n cs le h.1)

pub root-more : (base : Option Address) (m n : ℕ) (at : Option Address) → m ≤ n → IsRoot base m at → IsRoot base n at
root-more base m n None le h = tt
root-more base m n (Some a) le h = lower-more base m n a le h

pub lower-own : (base : Option Address) (i n : ℕ) → i < n → IsLower base n (own_address i)
lower-own base i n lt = record { own = refl; before = lt }

pub lower-saved : (base : Option Address) (n : ℕ) (a : Address) → is_saved a ≡ true → IsLower base n a → IsBelowBase base a
lower-saved base n a q h = subst (λ (b : Bool). IsLowerBy b base n a) q h

pub lower-before : (base : Option Address) (n : ℕ) (a : Address) → is_saved a ≡ false → IsLower base n a → IsBefore n a
lower-before base n a q h = subst (λ (b : Bool). IsLowerBy b base n a) q h

pub saved-lower : (base : Option Address) (n : ℕ) (a : Address) → a.file < 2 ^ 32 → IsBelowBase base a → IsLower base n a
saved-lower base n a lt h = subst (λ (b : Bool). IsLowerBy b base n a) (sym (lt-ltb a.file own_file lt)) h

pub below-base : (base : Option Address) (a b : Address) → number_of b ≤ number_of a → IsBelowBase base a → IsBelowBase base b
below-base None a b le h = h
below-base (Some root) a b le h = omega (arith, le, h)

-- children of a record, each below it
pub all_lower-saved : (base : Option Address) (n : ℕ) (at : Address) (cs : List Link) → IsBelowBase base at → AllByRecursion (λ child. (child.1.file < 2 ^ 32) × (number_of child.1 < number_of at)) cs → AreLower base n cs
all_lower-saved base n at [] h all = tt
all_lower-saved base n at (c ∷ cs) h all = (saved-lower base n c.1 all.0.0 (below-base base at c.1 (let lt = all.0.1 in omega (arith, lt)) h), all_lower-saved base n at cs h all.1)

pub child-lower : (base : Option Address) (n : ℕ) (x : ℕ) (cs : List Link) (a : Address) → AreLower base n cs → child_of x cs ≡ Some a → IsLower base n a
child-lower base n x [] a h e = absurd cc
child-lower base n x (c ∷ cs) a h e = elim (eqb c.0 x) as (λ q. cond q (Some c.1) (child_of x cs) ≡ Some a → IsLower base n a) [
  | true ↦ λ e. let same : c.1 ≡ a = cc e in subst (λ (b : Address). IsLower base n b) same h.0
  | false ↦ λ e. child-lower base n x cs a h.1 e
] e

-- ---- the record of a branch

pub branch_of-record : (key : List ℕ) (value : Option (List ℕ)) (cs : List Link) → branch_of (Some (record_by key value cs)) ≡ Some (record { key = key; value = value; children = cs })
branch_of-record key None cs = refl
branch_of-record key (Some value) [] = refl
branch_of-record key (Some value) (c ∷ cs) = refl

pub whole : (b : Branch) → IsTrue (rise b.children) → IsTrue (are_enough b.value (length b.children)) → is_whole b ≡ true
whole b r e = let q : rise b.children ≡ true = r in let p : are_enough b.value (length b.children) ≡ true = e in rw (q, p)

whole-read : (b : Branch) → is_whole b ≡ true → record_of b ≡ Some (record_as b)
whole-read b w = ap (λ (q : Bool). cond q (Some (record_as b)) None) w

pub own-branch : (own : List Branch) (R : RecordsAt) (i : ℕ) (b : Branch) → slice_get own i ≡ Some b → IsTrue (rise b.children) → IsTrue (are_enough b.value (length b.children)) → IsBranch (with_own own R (number_of (own_address i))) b
own-branch own R i b e r enough = record {
  is = ap branch_of (own_read own R (number_of (own_address i)) i (omega arith) ∙ ap (option_and_then record_of) e ∙ whole-read b (whole b r enough)) ∙ branch_of-record b.key b.value b.children;
  rises = r;
}

pub saved-branch : (own : List Branch) (R : RecordsAt) (n : ℕ) (b : Branch) → n < own_start → IsBranch (R n) b → IsBranch (with_own own R n) b
saved-branch own R n b lt here = record { is = ap branch_of (saved_read own R n lt) ∙ here.is; rises = here.rises }

pub own-past : (own : List Branch) (R : RecordsAt) (n : ℕ) → own_start + length own ≤ n → branch_of (with_own own R n) ≡ None
own-past own R n le = ap branch_of (own_read own R n (n - own_start) (omega (arith, le)) ∙ ap (option_and_then record_of) (slice_get_past own (n - own_start) (omega (arith, le))))

-- ---- more branches

slice_get-append : (xs more : List Branch) (i : ℕ) (b : Branch) → slice_get xs i ≡ Some b → slice_get (xs ++ more) i ≡ Some b
slice_get-append [] more i b e = absurd cc
slice_get-append (x ∷ xs) more zero b e = e
slice_get-append (x ∷ xs) more (suc i) b e = slice_get-append xs more i b e

slice_get-last : (xs : List Branch) (b : Branch) → slice_get (xs ++ b ∷ []) (length xs) ≡ Some b
slice_get-last [] b = refl
slice_get-last (x ∷ xs) b = slice_get-last xs b

slice_get-one_more : (xs : List Branch) (y : Branch) (i : ℕ) (b : Branch) → slice_get (xs ++ y ∷ []) i ≡ Some b → (slice_get xs i ≡ Some b) ⊎ ((i ≡ length xs) × (y ≡ b))
slice_get-one_more [] y zero b e = inr (refl, cc e)
slice_get-one_more [] y (suc i) b e = absurd cc
slice_get-one_more (x ∷ xs) y zero b e = inl e
slice_get-one_more (x ∷ xs) y (suc i) b e = elim (slice_get-one_more xs y i b e) [
  | inl there ↦ inl there
  | inr last ↦ inr (ap suc last.0, last.1)
]

pub are_own-more : (base : Option Address) (own : List Branch) (b : Branch) → AreOwn base own → IsOwn base (length own) b → AreOwn base (own ++ b ∷ [])
are_own-more base own b each last i c e = elim (slice_get-one_more own b i c e) [
  | inl there ↦ each i c there
  | inr here ↦ subst (λ (n : ℕ). IsOwn base n c) (sym here.0) (subst (IsOwn base (length own)) here.1 last)
]

-- what stood stays
pub record Grows (old new : RecordsAt) : Type 0 where
  pub stays : (n : ℕ) (item : RecordValue) → old n ≡ Some item → new n ≡ Some item

read_more : (o p : Option Branch) (item : RecordValue) → ((b : Branch) → o ≡ Some b → p ≡ Some b) → option_and_then record_of o ≡ Some item → option_and_then record_of p ≡ Some item
read_more None p item f e = absurd cc
read_more (Some b) p item f e = ap (option_and_then record_of) (f b refl) ∙ e

pub grow-extends : (own new : List Branch) (R : RecordsAt) → Extends own new → Grows (with_own own R) (with_own new R)
grow-extends own new R x = record {
  stays = λ n item e. elim (cases_lt n own_start) [
    | inl lt ↦ saved_read new R n lt ∙ sym (saved_read own R n lt) ∙ e
    | inr ge ↦
        let here : n ≡ own_start + (n - own_start) = omega (arith, ge) in
        own_read new R n (n - own_start) here ∙ read_more (slice_get own (n - own_start)) (slice_get new (n - own_start)) item (λ b f. ap (λ (l : List Branch). slice_get l (n - own_start)) x.is ∙ slice_get-append own x.more (n - own_start) b f) (sym (own_read own R n (n - own_start) here) ∙ e)
  ];
}

pub extends-none : (xs : List Branch) → Extends xs xs
extends-none xs = record { more = []; is = sym (append-nil xs) }

pub extends-one : (xs ys : List Branch) (b : Branch) → ys ≡ xs ++ b ∷ [] → Extends xs ys
extends-one xs ys b e = record { more = b ∷ []; is = e }

pub extends-then : {A : Type 0} (xs ys zs : List A) → Extends xs ys → Extends ys zs → Extends xs zs
extends-then xs ys zs a b = record { more = a.more ++ b.more; is = b.is ∙ ap (λ l. l ++ b.more) a.is ∙ append_assoc xs a.more b.more }

pub extends-length : {A : Type 0} (xs ys : List A) → Extends xs ys → length xs ≤ length ys
extends-length xs ys x = let e = ap length x.is in let n = length-append xs x.more in omega (arith, e, n)

pub extends-front : {A : Type 0} (xs ys : List A) → Extends xs ys → take (length xs) ys ≡ xs
extends-front xs ys x = ap (take (length xs)) x.is ∙ take-append_seam xs x.more

pub grow-map : (R S : RecordsAt) → Grows R S → (n : ℕ) → IsSome (map_at R n) → map_at S n ≡ map_at R n
grow-map R S g n some = map_at-more R S n (λ below item le e. g.stays below item e) some

pub grow-has : (R S : RecordsAt) → Grows R S → (n : ℕ) → IsSome (map_at R n) → IsSome (map_at S n)
grow-has R S g n some = ap is_some (grow-map R S g n some) ∙ some

pub grow-value : (R S : RecordsAt) → Grows R S → (n : ℕ) (key : List ℕ) → IsSome (map_at R n) → value_at S n key ≡ value_at R n key
grow-value R S g n key some = ap (λ o. value_in o key) (grow-map R S g n some)

pub grow-have : (R S : RecordsAt) → Grows R S → (cs : List Link) → HaveMaps R cs → HaveMaps S cs
grow-have R S g [] h = tt
grow-have R S g (c ∷ cs) h = (grow-has R S g (number_of c.1) h.0, grow-have R S g cs h.1)

pub grow-under : (R S : RecordsAt) → Grows R S → (at : Option Address) (key : List ℕ) → IsTrue (has_map R at) → value_under S at key ≡ value_under R at key
grow-under R S g None key some = refl
grow-under R S g (Some a) key some = grow-value R S g (number_of a) key some

pub have-down : (R : RecordsAt) (at : ℕ) (cs : List Link) → HaveChildren R at cs → HaveMaps R cs
have-down R at [] h = tt
have-down R at (c ∷ cs) h = (h.0.map, have-down R at cs h.1)

pub branch-maps : (R : RecordsAt) (at : ℕ) (b : Branch) → IsSome (map_at R at) → IsBranch (R at) b → HaveMaps R b.children
branch-maps R at b some here = have-down R at b.children (map-down R at b some here.is)

map-end : (own : List Branch) (R : RecordsAt) (n : ℕ) → IsSome (map_at (with_own own R) n) → n < own_start + length own
map-end own R n some = elim (cases_lt n (own_start + length own)) [
  | inl lt ↦ lt
  | inr ge ↦ absurd (no_branch-map (with_own own R) n (own-past own R n ge) some)
]

have-up : (own new : List Branch) (R : RecordsAt) → Grows (with_own own R) (with_own new R) → (at : ℕ) → at ≡ own_start + length own → (cs : List Link) → HaveMaps (with_own own R) cs → HaveChildren (with_own new R) at cs
have-up own new R g at e [] h = tt
have-up own new R g at e (c ∷ cs) h =
    (record { lower = (let lt = map-end own R (number_of c.1) h.0 in omega (arith, lt, e)); map = grow-has (with_own own R) (with_own new R) g (number_of c.1) h.0 }, have-up own new R g at e cs h.1)

pub child-map : (R : RecordsAt) (x : ℕ) (cs : List Link) (a : Address) → HaveMaps R cs → child_of x cs ≡ Some a → IsSome (map_at R (number_of a))
child-map R x [] a h e = absurd cc
child-map R x (c ∷ cs) a h e = elim (eqb c.0 x) as (λ q. cond q (Some c.1) (child_of x cs) ≡ Some a → IsSome (map_at R (number_of a))) [
  | true ↦ λ e. let same : c.1 ≡ a = cc e in subst (λ (b : Address). IsSome (map_at R (number_of b))) same h.0
  | false ↦ λ e. child-map R x cs a h.1 e
] e

-- values by children that have the same ones
pub in_child-same : (f g : Below) (o : Option Address) (r : List ℕ) → ((a : Address) → o ≡ Some a → f (number_of a) r ≡ g (number_of a) r) → value_in_child f o r ≡ value_in_child g o r
in_child-same f g None r same = refl
in_child-same f g (Some a) r same = same a refl

behind-same : (f g : Below) (v : Option (List ℕ)) (cs : List Link) (o : Option (List ℕ)) → ((x : ℕ) (a : Address) (r : List ℕ) → child_of x cs ≡ Some a → f (number_of a) r ≡ g (number_of a) r) → value_behind f v cs o ≡ value_behind g v cs o
behind-same f g v cs None same = refl
behind-same f g v cs (Some []) same = refl
behind-same f g v cs (Some (x ∷ r)) same = in_child-same f g (child_of x cs) r (λ a e. same x a r e)

pub by-grow : (R S : RecordsAt) → Grows R S → (b : Branch) (key : List ℕ) → HaveMaps R b.children → value_by (value_at S) b key ≡ value_by (value_at R) b key
by-grow R S g b key h = behind-same (value_at S) (value_at R) b.value b.children (behind b.key key) (λ x a r e. grow-value R S g (number_of a) r (child-map R x b.children a h e))

-- a branch that was put behind the others stands for itself
pub stored : (own new : List Branch) (R : RecordsAt) (b : Branch) → new ≡ own ++ b ∷ [] → HaveMaps (with_own own R) b.children → IsTrue (rise b.children) → IsTrue (are_enough b.value (length b.children)) → StandsFor (with_own own R) (with_own new R) b (Some (own_address (length own)))
stored own new R b put h rises enough =
    let at : ℕ = number_of (own_address (length own)) in
    let g = grow-extends own new R (extends-one own new b put) in
    let here : IsBranch (with_own new R at) b = own-branch new R (length own) b (ap (λ (l : List Branch). slice_get l (length own)) put ∙ slice_get-last own b) rises enough in
    let map = map-up (with_own new R) at b here.is (have-up own new R g at (omega arith) b.children h) in
    record {
      map = map;
      value = λ key. value_at-by (with_own new R) at b key map here ∙ by-grow (with_own own R) (with_own new R) g b key h;
    }

-- ---- laws of the shape

of_own-rises : (o : Option Branch) → IfSome (option_and_then record_of o) HasRisingChildren
of_own-rises None = tt
of_own-rises (Some b) = elim (is_whole b) as (λ q. is_whole b ≡ q → IfSome (cond q (Some (record_as b)) None) HasRisingChildren) [
  | true ↦ λ e. by b.key b.value b.children (and_parts (rise b.children) (are_enough b.value (length b.children)) e).0
  | false ↦ λ e. tt
] refl
  where
    by : (key : List ℕ) (value : Option (List ℕ)) (cs : List Link) → rise cs ≡ true → HasRisingChildren (record_by key value cs)
    by key None cs r = r
    by key (Some value) [] r = tt
    by key (Some value) (c ∷ cs) r = r

of_own-branches : (o : Option Branch) → IfSome (option_and_then record_of o) HasEnoughChildren
of_own-branches None = tt
of_own-branches (Some b) = elim (is_whole b) as (λ q. is_whole b ≡ q → IfSome (cond q (Some (record_as b)) None) HasEnoughChildren) [
  | true ↦ λ e. by b.key b.value b.children (and_parts (rise b.children) (are_enough b.value (length b.children)) e).1
  | false ↦ λ e. tt
] refl
  where
    by : (key : List ℕ) (value : Option (List ℕ)) (cs : List Link) → are_enough value (length cs) ≡ true → HasEnoughChildren (record_by key value cs)
    by key None cs e = leb-true 2 (length cs) e
    by key (Some value) [] e = tt
    by key (Some value) (c ∷ cs) e = omega arith

pub with_own-rises : (own : List Branch) (R : RecordsAt) → RisesEverywhere R → RisesEverywhere (with_own own R)
with_own-rises own R r n = elim (ltb n own_start) as (λ q. IfSome (cond q (R n) (option_and_then record_of (slice_get own (n - own_start)))) HasRisingChildren) [
  | true ↦ r n
  | false ↦ of_own-rises (slice_get own (n - own_start))
]

pub with_own-branches : (own : List Branch) (R : RecordsAt) → BranchesEverywhere R → BranchesEverywhere (with_own own R)
with_own-branches own R r n = elim (ltb n own_start) as (λ q. IfSome (cond q (R n) (option_and_then record_of (slice_get own (n - own_start)))) HasEnoughChildren) [
  | true ↦ r n
  | false ↦ of_own-branches (slice_get own (n - own_start))
]
