-- Which keys pass a test by order.
use Rattle.std.proofs.Common.{◌≡◌, ◌<◌, ℕ, List, [], ◌∷◌, ◌++◌, Bool, true, false, cond, eqb, None, refl, sym, ◌∙◌, ap, arith, inl, inr}
use Rattle.std.specs.declared.cmp.Ordering.{Ordering}
use Rattle.std.specs.declared.cmp.Ordering.TheVariants.{Less, Equal, Greater}
use Rattle.std.specs.Ordering.{nat_cmp, ordering_then, is_lt, is_le}
use Rattle.std.proofs.lemmas.Bool.{cases_eq, cases_lt}
use Rattle.std.proofs.lemmas.Bool.Decides.{nat_tests}
use Rattle.std.proofs.lemmas.List.{append-nil}
use Rattle.xod_base.specs.Values.{bytes_cmp}
use Rattle.xod_base.proofs.CallerLemmas.{bytes_cmp-front}
use Rattle.xod_trie.specs.Branches.{behind}
use Rattle.xod_trie.specs.Least.{passes}

-- what an order of two keys says of the second
abbrev allows : Bool → Ordering → Bool
allows strict order = cond strict (is_lt order) (is_le order)

allows-less : (strict : Bool) → allows strict Less ≡ true
allows-less true = refl
allows-less false = refl

allows-greater : (strict : Bool) → allows strict Greater ≡ false
allows-greater true = refl
allows-greater false = refl

-- keys behind one front
pub passes-front : (strict : Bool) (front key other : List ℕ) → passes strict (front ++ key) (front ++ other) ≡ passes strict key other
passes-front strict front key other = ap (allows strict) (bytes_cmp-front front key other)

-- behind the key itself
pub passes-behind : (strict : Bool) (key other : List ℕ) → passes strict key (key ++ other) ≡ passes strict [] other
passes-behind strict key other = ap (λ (k : List ℕ). passes strict k (key ++ other)) (sym (append-nil key)) ∙ passes-front strict key [] other

-- every key is not below the empty one
pub passes-any : (other : List ℕ) → passes false [] other ≡ true
passes-any [] = refl
passes-any (c ∷ other) = refl

-- and each that has a byte is above it
pub passes-longer : (strict : Bool) (c : ℕ) (other : List ℕ) → passes strict [] (c ∷ other) ≡ true
passes-longer strict c other = allows-less strict

pub passes-shorter : (strict : Bool) (b : ℕ) (key : List ℕ) → passes strict (b ∷ key) [] ≡ false
passes-shorter strict b key = allows-greater strict

-- ---- by the first bytes

abbrev then_rest : Bool → List ℕ → List ℕ → Ordering → Bool
then_rest strict key other order = allows strict (ordering_then order (bytes_cmp key other))

pub passes-greater_byte : (strict : Bool) (b c : ℕ) (key other : List ℕ) → b < c → passes strict (b ∷ key) (c ∷ other) ≡ true
passes-greater_byte strict b c key other lt = let less : nat_cmp b c ≡ Less = grind (arith, nat_tests) in ap (then_rest strict key other) less ∙ allows-less strict

pub passes-lesser_byte : (strict : Bool) (b c : ℕ) (key other : List ℕ) → c < b → passes strict (b ∷ key) (c ∷ other) ≡ false
passes-lesser_byte strict b c key other lt = let greater : nat_cmp b c ≡ Greater = grind (arith, nat_tests) in ap (then_rest strict key other) greater ∙ allows-greater strict

pub passes-same_byte : (strict : Bool) (b : ℕ) (key other : List ℕ) → passes strict (b ∷ key) (b ∷ other) ≡ passes strict key other
passes-same_byte strict b key other = passes-front strict (b ∷ []) key other

-- ---- behind a front that the key leaves, all pass or none

abbrev before_rest : List ℕ → List ℕ → Ordering → Bool
before_rest key front order = is_lt (ordering_then order (bytes_cmp key front))

pub passes-apart : (strict : Bool) (front key other : List ℕ) → behind front key ≡ None → passes strict key (front ++ other) ≡ is_lt (bytes_cmp key front)
passes-apart strict [] key other e = absurd cc
passes-apart strict (c ∷ front) [] other e = allows-less strict
passes-apart strict (c ∷ front) (b ∷ key) other e = elim (cases_eq c b) [
  | inl same ↦
      let yes : eqb c b ≡ true = grind (arith, nat_tests) in
      let later : behind front key ≡ None = sym (ap (λ (q : Bool). cond q (behind front key) None) yes) ∙ e in
      let tie : nat_cmp b c ≡ Equal = grind (arith, nat_tests) in
      ap (then_rest strict key (front ++ other)) tie ∙ passes-apart strict front key other later ∙ sym (ap (before_rest key front) tie)
  | inr apart ↦ elim (cases_lt b c) [
    | inl lt ↦
        let less : nat_cmp b c ≡ Less = grind (arith, nat_tests) in
        ap (then_rest strict key (front ++ other)) less ∙ allows-less strict ∙ sym (ap (before_rest key front) less)
    | inr ge ↦
        let greater : nat_cmp b c ≡ Greater = grind (arith, nat_tests, apart, ge) in
        ap (then_rest strict key (front ++ other)) greater ∙ allows-greater strict ∙ sym (ap (before_rest key front) greater)
  ]
]
