-- Keys behind fronts, and the children of bytes.
use Rattle.std.proofs.Common.{◌+◌, drop, slice_get, ◌≡◌, ◌<◌, ◌≤◌, ℕ, List, [], ◌∷◌, ◌++◌, Bool, true, false, cond, ltb, eqb, Option, Some, None, refl, sym, ◌∙◌, ap, arith, inl, inr}
use Rattle.std.specs.declared.cmp.Ordering.{Ordering}
use Rattle.std.specs.Ordering.{nat_cmp, ordering_then, is_eq, eq_by_cmp}
use Rattle.std.specs.FinMap.{find}
use Rattle.std.proofs.lemmas.Bool.{cases_eq}
use Rattle.std.proofs.lemmas.Bool.Decides.{nat_tests}
use Rattle.xod_base.specs.Values.{bytes_cmp}
use Rattle.xod_block.specs.Maps.{Pairs, under}
use Rattle.xod_block.specs.Records.{Link, rise}
use Rattle.xod_block.proofs.CallerLemmas.{rise-parts}
use Rattle.xod_trie.specs.Branches.{behind, child_of}
use Rattle.xod_trie.proofs.Lists.{drop_at_place}

abbrev pub tied : List ℕ → List ℕ → Bool
tied = eq_by_cmp bytes_cmp

-- one byte of both keys
pub tied-byte : (b c : ℕ) (o : Ordering) → is_eq (ordering_then (nat_cmp b c) o) ≡ cond (eqb c b) (is_eq o) false
tied-byte b c o = elim (cases_eq b c) [
  | inl same ↦
      let yes : eqb c b ≡ true = grind (arith, nat_tests) in
      let tie : nat_cmp b c ≡ nat_cmp b b = ap (nat_cmp b) (sym same) in
      let self : (o : Ordering) → is_eq (ordering_then (nat_cmp b b) o) ≡ is_eq o = λ o. (let lt : ltb b b ≡ false = grind (arith, nat_tests) in let eq : eqb b b ≡ true = grind (arith, nat_tests) in rw (lt, eq)) in
      ap (λ (r : Ordering). is_eq (ordering_then r o)) tie ∙ self o ∙ sym (ap (λ (q : Bool). cond q (is_eq o) false) yes)
  | inr apart ↦
      let no : eqb c b ≡ false = grind (arith, nat_tests, apart) in
      let no2 : eqb b c ≡ false = grind (arith, nat_tests, apart) in
      elim (ltb b c) as (λ q. is_eq (ordering_then (cond q Ordering.Less (cond (eqb b c) Ordering.Equal Ordering.Greater)) o) ≡ cond (eqb c b) (is_eq o) false) [
        | true ↦ rw no
        | false ↦ rw (no, no2)
      ]
]

abbrev pub tied_behind : Option (List ℕ) → List ℕ → Bool
tied_behind None x = false
tied_behind (Some rest) x = tied rest x

cond_out : (q : Bool) (o : Option (List ℕ)) (x : List ℕ) → cond q (tied_behind o x) false ≡ tied_behind (cond q o None) x
cond_out true o x = refl
cond_out false o x = refl

pub tied-behind : (front x key : List ℕ) → tied key (front ++ x) ≡ tied_behind (behind front key) x
tied-behind [] x key = refl
tied-behind (c ∷ front) x [] = refl
tied-behind (c ∷ front) x (b ∷ key) =
    tied-byte b c (bytes_cmp key (front ++ x))
    ∙ ap (λ (q : Bool). cond (eqb c b) q false) (tied-behind front x key)
    ∙ cond_out (eqb c b) (behind front key) x

-- ---- values in lists of pairs

abbrev pub or_else : Option (List ℕ) → Option (List ℕ) → Option (List ℕ)
or_else None other = other
or_else (Some value) other = Some value

or_cond : (q : Bool) (v : List ℕ) (w z : Option (List ℕ)) → or_else (cond q (Some v) w) z ≡ cond q (Some v) (or_else w z)
or_cond true v w z = refl
or_cond false v w z = refl

pub or_none : (v : Option (List ℕ)) → or_else v None ≡ v
or_none None = refl
or_none (Some v) = refl

pub find-both : (ps qs : Pairs) (key : List ℕ) → find bytes_cmp key (ps ++ qs) ≡ or_else (find bytes_cmp key ps) (find bytes_cmp key qs)
find-both [] qs key = refl
find-both (p ∷ ps) qs key =
    ap (cond (tied key p.0) (Some p.1)) (find-both ps qs key)
    ∙ sym (or_cond (tied key p.0) p.1 (find bytes_cmp key ps) (find bytes_cmp key qs))

abbrev pub find_behind : Option (List ℕ) → Pairs → Option (List ℕ)
find_behind None ps = None
find_behind (Some rest) ps = find bytes_cmp rest ps

nothing_there : (o : Option (List ℕ)) → None ≡ find_behind o []
nothing_there None = refl
nothing_there (Some rest) = refl

one_more : (o : Option (List ℕ)) (p : List ℕ × List ℕ) (ps : Pairs) → cond (tied_behind o p.0) (Some p.1) (find_behind o ps) ≡ find_behind o (p ∷ ps)
one_more None p ps = refl
one_more (Some rest) p ps = refl

pub find-under : (front : List ℕ) (ps : Pairs) (key : List ℕ) → find bytes_cmp key (under front ps) ≡ find_behind (behind front key) ps
find-under front [] key = nothing_there (behind front key)
find-under front (p ∷ ps) key =
    ap (λ (q : Bool). cond q (Some p.1) (find bytes_cmp key (under front ps))) (tied-behind front p.0 key)
    ∙ ap (cond (tied_behind (behind front key) p.0) (Some p.1)) (find-under front ps key)
    ∙ one_more (behind front key) p ps

-- ---- children

-- all bytes of children are above a byte
abbrev pub AllAbove : ℕ → List Link → Type 0
AllAbove b [] = Unit {0}
AllAbove b (c ∷ cs) = (b < c.0) × AllAbove b cs

pub all_above : (c : Link) (cs : List Link) (b : ℕ) → b ≤ c.0 → rise (c ∷ cs) ≡ true → AllAbove b cs
all_above c [] b le e = tt
all_above c (d ∷ cs) b le e =
    let h = rise-parts c d cs e in
    let lt : b < d.0 = omega (arith, h.0, le) in
    (lt, all_above d cs b (omega (arith, lt)) h.1)

pub none_above : (b : ℕ) (cs : List Link) → AllAbove b cs → child_of b cs ≡ None
none_above b [] all = refl
none_above b (c ∷ cs) all = let lt : b < c.0 = all.0 in let no : eqb c.0 b ≡ false = grind (arith, nat_tests) in rw no (none_above b cs all.1)

-- a link at a place is the one sought, or is passed
pub child-hit : (byte : ℕ) (links : List Link) (i : ℕ) (x : Link) → slice_get links i ≡ Some x → x.0 ≡ byte → child_of byte (drop i links) ≡ Some x.1
child-hit byte links i x e same = let yes : eqb x.0 byte ≡ true = grind (arith, nat_tests) in ap (child_of byte) (drop_at_place links i x e) ∙ ap (λ (q : Bool). cond q (Some x.1) (child_of byte (drop (i + 1) links))) yes

pub child-miss : (byte : ℕ) (links : List Link) (i : ℕ) (x : Link) → slice_get links i ≡ Some x → (x.0 ≡ byte → ⊥) → child_of byte (drop i links) ≡ child_of byte (drop (i + 1) links)
child-miss byte links i x e apart = let no : eqb x.0 byte ≡ false = grind (arith, nat_tests, apart) in ap (child_of byte) (drop_at_place links i x e) ∙ ap (λ (q : Bool). cond q (Some x.1) (child_of byte (drop (i + 1) links))) no
