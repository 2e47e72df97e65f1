-- Children with another one under a byte.
use Rattle.std.proofs.Common.{◌≡◌, ◌<◌, ◌≤◌, ℕ, zero, suc, ◌+◌, List, [], ◌∷◌, ◌++◌, take, drop, Bool, true, false, ◌&&◌, map, cond, ltb, eqb, Option, Some, None, slice_get, refl, sym, ◌∙◌, ap, subst, arith, inl, inr}
use Rattle.std.specs.Prelude.{IfSome}
use Rattle.std.specs.List.{AllByRecursion}
use Rattle.std.proofs.lemmas.Bool.{cases_eq, cases_order, lt-ltb, eqb-true}
use Rattle.std.proofs.lemmas.Bool.Decides.{nat_tests}
use Rattle.std.proofs.lemmas.List.{append-nil}
use Rattle.xod_block.specs.declared.address.Address.{Address}
use Rattle.xod_block.specs.Records.{Link, rise}
use Rattle.xod_block.proofs.CallerLemmas.{rise-rest}
use Rattle.xod_trie.specs.Branches.{child_of}
use Rattle.xod_trie.proofs.CallerLemmas.{AllAbove, all_above, none_above}
use Rattle.xod_trie_mut.specs.Links.{new_link, set_link}
use Rattle.xod_trie_mut.specs.Own.{HasParts}

swap : (p q : Bool) (x y z : Option Address) → (p ≡ true → q ≡ true → ⊥) → cond p x (cond q y z) ≡ cond q y (cond p x z)
swap true true x y z never = absurd (never refl refl)
swap true false x y z never = refl
swap false q x y z never = refl

-- at the end of those before the byte
behind_new : (b x : ℕ) (at : Option Address) (cs : List Link) → child_of b cs ≡ None → child_of x (new_link b at ++ cs) ≡ cond (eqb b x) at (child_of x cs)
behind_new b x None cs none = elim (cases_eq b x) [
  | inl same ↦ let yes : eqb b x ≡ true = grind (arith, nat_tests) in ap (λ (y : ℕ). child_of y cs) (sym same) ∙ none ∙ sym (ap (λ (q : Bool). cond q None (child_of x cs)) yes)
  | inr apart ↦ let no : eqb b x ≡ false = grind (arith, nat_tests, apart) in sym (ap (λ (q : Bool). cond q None (child_of x cs)) no)
]
behind_new b x (Some a) cs none = refl

-- past one of the byte
past : (b x : ℕ) (at : Option Address) (c : Link) (cs : List Link) → c.0 ≡ b → cond (eqb b x) at (child_of x cs) ≡ cond (eqb b x) at (cond (eqb c.0 x) (Some c.1) (child_of x cs))
past b x at c cs same = elim (cases_eq b x) [
  | inl eq ↦ let yes : eqb b x ≡ true = grind (arith, nat_tests) in ap (λ (q : Bool). cond q at (child_of x cs)) yes ∙ sym (ap (λ (q : Bool). cond q at (cond (eqb c.0 x) (Some c.1) (child_of x cs))) yes)
  | inr apart ↦ let no : eqb c.0 x ≡ false = grind (arith, nat_tests, apart, same) in ap (λ (q : Bool). cond (eqb b x) at (cond q (Some c.1) (child_of x cs))) (sym no)
]

-- what is set, step by step
set-before : (b : ℕ) (at : Option Address) (c : Link) (cs : List Link) → c.0 < b → set_link b at (c ∷ cs) ≡ c ∷ set_link b at cs
set-before b at c cs lt =
    let yes : ltb c.0 b ≡ true = grind (arith, nat_tests) in
    ap (λ (q : Bool). cond q (c ∷ set_link b at cs) (new_link b at ++ cond (eqb c.0 b) cs (c ∷ cs))) yes

set-there : (b : ℕ) (at : Option Address) (c : Link) (cs : List Link) → c.0 ≡ b → set_link b at (c ∷ cs) ≡ new_link b at ++ cs
set-there b at c cs same =
    let no : ltb c.0 b ≡ false = grind (arith, nat_tests) in
    let yes : eqb c.0 b ≡ true = grind (arith, nat_tests) in
    ap (λ (q : Bool). cond q (c ∷ set_link b at cs) (new_link b at ++ cond (eqb c.0 b) cs (c ∷ cs))) no
    ∙ ap (λ (q : Bool). new_link b at ++ cond q cs (c ∷ cs)) yes

set-behind : (b : ℕ) (at : Option Address) (c : Link) (cs : List Link) → b < c.0 → set_link b at (c ∷ cs) ≡ new_link b at ++ c ∷ cs
set-behind b at c cs gt =
    let no : ltb c.0 b ≡ false = grind (arith, nat_tests) in
    let no2 : eqb c.0 b ≡ false = grind (arith, nat_tests) in
    ap (λ (q : Bool). cond q (c ∷ set_link b at cs) (new_link b at ++ cond (eqb c.0 b) cs (c ∷ cs))) no
    ∙ ap (λ (q : Bool). new_link b at ++ cond q cs (c ∷ cs)) no2

pub set_link-child : (b x : ℕ) (at : Option Address) (cs : List Link) → rise cs ≡ true → child_of x (set_link b at cs) ≡ cond (eqb b x) at (child_of x cs)
set_link-child b x at [] r = ap (child_of x) (sym (append-nil (new_link b at))) ∙ behind_new b x at [] refl
set_link-child b x at (c ∷ cs) r = elim (cases_order c.0 b) [
  | inl same ↦
      ap (child_of x) (set-there b at c cs same)
      ∙ behind_new b x at cs (none_above b cs (all_above c cs b (omega (arith, same)) r))
      ∙ past b x at c cs same
  | inr (inl lt) ↦
      ap (child_of x) (set-before b at c cs lt)
      ∙ ap (cond (eqb c.0 x) (Some c.1)) (set_link-child b x at cs (rise-rest c cs r))
      ∙ swap (eqb c.0 x) (eqb b x) (Some c.1) at (child_of x cs) (λ p q. let e = eqb-true c.0 x p in let f = eqb-true b x q in omega (arith, lt, e, f))
  | inr (inr gt) ↦
      let no2 : eqb c.0 b ≡ false = grind (arith, nat_tests) in
      ap (child_of x) (set-behind b at c cs gt)
      ∙ behind_new b x at (c ∷ cs) (ap (λ (q : Bool). cond q (Some c.1) (child_of b cs)) no2 ∙ none_above b cs (all_above c cs b (omega (arith, gt)) r))
]

rise-cons : (c : Link) (cs : List Link) → AllAbove c.0 cs → rise cs ≡ true → rise (c ∷ cs) ≡ true
rise-cons c [] all r = refl
rise-cons c (d ∷ cs) all r = let lt : ltb c.0 d.0 ≡ true = lt-ltb c.0 d.0 all.0 in rw (lt, r)

above-new : (y b : ℕ) (at : Option Address) (cs : List Link) → y < b → AllAbove y cs → AllAbove y (new_link b at ++ cs)
above-new y b None cs lt all = all
above-new y b (Some a) cs lt all = (lt, all)

above-set : (y b : ℕ) (at : Option Address) (cs : List Link) → y < b → AllAbove y cs → AllAbove y (set_link b at cs)
above-set y b at [] lt all = subst (AllAbove y) (append-nil (new_link b at)) (above-new y b at [] lt tt)
above-set y b at (c ∷ cs) lt all = elim (ltb c.0 b) as (λ q. AllAbove y (cond q (c ∷ set_link b at cs) (new_link b at ++ cond (eqb c.0 b) cs (c ∷ cs)))) [
  | true ↦ (all.0, above-set y b at cs lt all.1)
  | false ↦ above-new y b at (cond (eqb c.0 b) cs (c ∷ cs)) lt (elim (eqb c.0 b) as (λ q. AllAbove y (cond q cs (c ∷ cs))) [ true ↦ all.1 | false ↦ all ])
]

rise-new : (b : ℕ) (at : Option Address) (cs : List Link) → AllAbove b cs → rise cs ≡ true → rise (new_link b at ++ cs) ≡ true
rise-new b None cs all r = r
rise-new b (Some a) cs all r = rise-cons (b, a) cs all r

pub set_link-rise : (b : ℕ) (at : Option Address) (cs : List Link) → rise cs ≡ true → rise (set_link b at cs) ≡ true
set_link-rise b at [] r = ap rise (sym (append-nil (new_link b at))) ∙ rise-new b at [] tt refl
set_link-rise b at (c ∷ cs) r = elim (cases_order c.0 b) [
  | inl same ↦ ap rise (set-there b at c cs same) ∙ rise-new b at cs (all_above c cs b (omega (arith, same)) r) (rise-rest c cs r)
  | inr (inl lt) ↦ ap rise (set-before b at c cs lt) ∙ rise-cons c (set_link b at cs) (above-set c.0 b at cs lt (all_above c cs c.0 (omega arith) r)) (set_link-rise b at cs (rise-rest c cs r))
  | inr (inr gt) ↦ ap rise (set-behind b at c cs gt) ∙ rise-new b at (c ∷ cs) (gt, all_above c cs b (omega (arith, gt)) r) r
]

-- what holds of each child and of the new one holds of those that are set
module _ (P : Link → Type 0) (b : ℕ) (at : Option Address) (new : IfSome at (λ a. P (b, a))) where
  all-new : (o : Option Address) (cs : List Link) → IfSome o (λ a. P (b, a)) → AllByRecursion P cs → AllByRecursion P (new_link b o ++ cs)
  all-new None cs n h = h
  all-new (Some a) cs n h = (n, h)

  pub set_link-all : (cs : List Link) → AllByRecursion P cs → AllByRecursion P (set_link b at cs)
  set_link-all [] h = subst (AllByRecursion P) (append-nil (new_link b at)) (all-new at [] new tt)
  set_link-all (c ∷ cs) h = elim (ltb c.0 b) as (λ q. AllByRecursion P (cond q (c ∷ set_link b at cs) (new_link b at ++ cond (eqb c.0 b) cs (c ∷ cs)))) [
    | true ↦ (h.0, set_link-all cs h.1)
    | false ↦ all-new at (cond (eqb c.0 b) cs (c ∷ cs)) new (elim (eqb c.0 b) as (λ q. AllByRecursion P (cond q cs (c ∷ cs))) [ true ↦ h.1 | false ↦ h ])
  ]

-- ---- the place of a byte among children

ahead_drop : (b : ℕ) (at : Option Address) (cs : List Link) (i : ℕ) (c : Link) → slice_get cs i ≡ Some c → c.0 < b → take i cs ++ set_link b at (drop i cs) ≡ take (suc i) cs ++ set_link b at (drop (suc i) cs)
ahead_drop b at [] i c e lt = absurd cc
ahead_drop b at (d ∷ cs) zero c e lt = let same : d ≡ c = cc e in set-before b at d cs (subst (λ (x : Link). x.0 < b) (sym same) lt)
ahead_drop b at (d ∷ cs) (suc i) c e lt = ap (λ (l : List Link). d ∷ l) (ahead_drop b at cs i c e lt)

-- one more child before it
pub ahead-more : (b : ℕ) (at : Option Address) (cs : List Link) (i : ℕ) (c : Link) → slice_get cs i ≡ Some c → c.0 < b → set_link b at cs ≡ take i cs ++ set_link b at (drop i cs) → set_link b at cs ≡ take (i + 1) cs ++ set_link b at (drop (i + 1) cs)
ahead-more b at cs i c e lt h = let next : suc i ≡ i + 1 = omega arith in h ∙ ahead_drop b at cs i c e lt ∙ ap (λ (n : ℕ). take n cs ++ set_link b at (drop n cs)) next

-- the child there is that of the byte
pub set-same : (b : ℕ) (at : Option Address) (cs : List Link) (i : ℕ) (c : Link) → slice_get cs i ≡ Some c → c.0 ≡ b → set_link b at (drop i cs) ≡ new_link b at ++ drop (i + 1) cs
set-same b at [] i c e same = absurd cc
set-same b at (d ∷ cs) zero c e same = let is : d ≡ c = cc e in set-there b at d cs (ap (λ (x : Link). x.0) is ∙ same)
set-same b at (d ∷ cs) (suc i) c e same = let next : suc i + 1 ≡ suc (i + 1) = omega arith in set-same b at cs i c e same ∙ ap (λ (n : ℕ). new_link b at ++ drop n (d ∷ cs)) (sym next)

drop-nil : (i : ℕ) → drop {A = Link} i [] ≡ []
drop-nil zero = refl
drop-nil (suc i) = refl

-- or it comes behind it
pub set-apart : (b : ℕ) (at : Option Address) (cs : List Link) (i : ℕ) → IfSome (slice_get cs i) (λ c. b < c.0) → set_link b at (drop i cs) ≡ new_link b at ++ drop i cs
set-apart b at [] i gt = let none : drop {A = Link} i [] ≡ [] = drop-nil i in rw none (sym (append-nil (new_link b at)))
set-apart b at (c ∷ cs) zero gt = set-behind b at c cs gt
set-apart b at (c ∷ cs) (suc i) gt = set-apart b at cs i gt

pub apart-there : (b : ℕ) (at : Option Address) (cs : List Link) (i : ℕ) (x : Link) → slice_get cs i ≡ Some x → (x.0 ≡ b → ⊥) → IfSome (slice_get cs i) (λ c. b ≤ c.0) → set_link b at (drop i cs) ≡ new_link b at ++ drop i cs
apart-there b at cs i x there ne h =
    let le : b ≤ x.0 = subst (λ (o : Option Link). IfSome o (λ c. b ≤ c.0)) there h in
    let lt : b < x.0 = omega (arith, le, ne) in
    set-apart b at cs i (subst (λ (o : Option Link). IfSome o (λ c. b < c.0)) (sym there) lt)

-- ---- children with the same bytes

abbrev pub bytes_in : List Link → List ℕ
bytes_in cs = map (λ (child : Link). child.0) cs

rises : List ℕ → Bool
rises [] = true
rises (a ∷ []) = true
rises (a ∷ b ∷ bytes) = ltb a b && rises (b ∷ bytes)

rise-bytes : (cs : List Link) → rise cs ≡ rises (map (λ (child : Link). child.0) cs)
unfolding rises
rise-bytes [] = refl
rise-bytes (a ∷ []) = refl
rise-bytes (a ∷ b ∷ cs) = ap (λ (q : Bool). ltb a.0 b.0 && q) (rise-bytes (b ∷ cs))

all-bytes : (cs : List Link) → AllByRecursion (λ child. child.0 < 256) cs → AllByRecursion (λ byte. byte < 256) (map (λ (child : Link). child.0) cs)
all-bytes [] h = tt
all-bytes (c ∷ cs) h = (h.0, all-bytes cs h.1)

bytes-all : (cs : List Link) → AllByRecursion (λ byte. byte < 256) (map (λ (child : Link). child.0) cs) → AllByRecursion (λ child. child.0 < 256) cs
bytes-all [] h = tt
bytes-all (c ∷ cs) h = (h.0, bytes-all cs h.1)

pub same-parts : (key : List ℕ) (value : Option (List ℕ)) (old new : List Link) → HasParts (record { key = key; value = value; children = old }) → map (λ (child : Link). child.0) new ≡ map (λ (child : Link). child.0) old → HasParts (record { key = key; value = value; children = new })
same-parts key value old new h same = record {
  key_fits = h.key_fits;
  value_fits = h.value_fits;
  bytes = bytes-all new (subst (AllByRecursion (λ (byte : ℕ). byte < 256)) (sym same) (all-bytes old h.bytes));
  rising = rise-bytes new ∙ ap rises same ∙ sym (rise-bytes old) ∙ h.rising;
}

pub set-parts : (key : List ℕ) (value : Option (List ℕ)) (cs new : List Link) (b : ℕ) (at : Option Address) → HasParts (record { key = key; value = value; children = cs }) → b < 256 → new ≡ set_link b at cs → HasParts (record { key = key; value = value; children = new })
set-parts key value cs new b at h lt is = record {
  key_fits = h.key_fits;
  value_fits = h.value_fits;
  bytes = subst (AllByRecursion (λ (child : Link). child.0 < 256)) (sym is) (set_link-all (λ (child : Link). child.0 < 256) b at (each at) cs h.bytes);
  rising = ap rise is ∙ set_link-rise b at cs h.rising;
}
  where
    each : (o : Option Address) → IfSome o (λ _. b < 256)
    each None = tt
    each (Some a) = lt
