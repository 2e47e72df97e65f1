-- The first pair that passes has the least key that passes.
use Rattle.std.proofs.Common.{◌≡◌, ℕ, List, [], ◌∷◌, Bool, true, false, cond, Some, None, refl, sym, ◌∙◌, ap}
use Rattle.std.specs.Prelude.{IsSome, is_some, IfSome, IsTrue}
use Rattle.std.specs.declared.cmp.Ordering.{Ordering}
use Rattle.std.specs.declared.cmp.Ordering.TheVariants.{Less, Equal, Greater}
use Rattle.std.specs.Ordering.{is_lt, is_le, is_eq, eq_by_cmp}
use Rattle.std.specs.FinMap.{get, entries, entries_sorted, get-entries, find, nat_cmp-IsAntisymmetric, slice_cmp-IsAntisymmetric}
use Rattle.std.specs.FinMap.Entries.{below_all, is_sorted}
use Rattle.std.specs.Cmp.{tied_itself, Equal-is}
use Rattle.std.specs.Cmp.Lexicographic.{nat_list_cmp_total}
use Rattle.std.proofs.lemmas.Bool.{and_parts}
use Rattle.std.proofs.Math.Dec.{T}
use Rattle.xod_base.specs.Values.{bytes_cmp}
use Rattle.xod_base.specs.declared.pair.Pair.{Pair}
use Rattle.xod_block.specs.Maps.{Pairs}
use Rattle.xod_trie.specs.Least.{Test, pair_of, first_from, passes, least, IsLeast}
use Rattle.xod_trie.specs.Tries.{TrieMap}

T-true : (b : Bool) → T b → b ≡ true
T-true true h = refl
T-true false h = absurd h

-- keys that tie are the same
same_key : (x y : List ℕ) → eq_by_cmp bytes_cmp x y ≡ true → x ≡ y
same_key x y e = slice_cmp-IsAntisymmetric nat_cmp-IsAntisymmetric x y ((Equal-is (bytes_cmp x y)).0 e)

lt_le : (o : Ordering) → is_lt o ≡ true → is_le o ≡ true
lt_le Less e = refl
lt_le Equal e = refl
lt_le Greater e = e

abbrev Above : List ℕ → Pairs → Type 0
Above key pairs = below_all bytes_cmp key pairs ≡ true

abbrev HasKey : Pairs → List ℕ → Type 0
HasKey pairs key = is_some (find bytes_cmp key pairs) ≡ true

-- a key that is there is that of the first pair, or one of the others has it
first_or : (e : List ℕ × List ℕ) (pairs : Pairs) (key : List ℕ) (P : Type 0) → HasKey (e ∷ pairs) key → (key ≡ e.0 → P) → (HasKey pairs key → P) → P
first_or e pairs key P has here later = elim (eq_by_cmp bytes_cmp key e.0) as (λ q. eq_by_cmp bytes_cmp key e.0 ≡ q → is_some (cond q (Some e.1) (find bytes_cmp key pairs)) ≡ true → P) [
  | true ↦ λ t h. here (same_key key e.0 t)
  | false ↦ λ t h. later h
] refl has

above-has : (x : List ℕ) (pairs : Pairs) (key : List ℕ) → Above x pairs → HasKey pairs key → is_lt (bytes_cmp x key) ≡ true
above-has x [] key above has = absurd cc
above-has x (e ∷ pairs) key above has =
    let h = and_parts (is_lt (bytes_cmp x e.0)) (below_all bytes_cmp x pairs) above in
    first_or e pairs key (is_lt (bytes_cmp x key) ≡ true) has (λ same. ap (λ (k : List ℕ). is_lt (bytes_cmp x k)) same ∙ h.0) (above-has x pairs key h.1)

record IsFirst (test : Test) (pairs : Pairs) (pair : Pair) : Type 0 where
  there : find bytes_cmp pair.key pairs ≡ Some pair.value
  passing : test pair.key ≡ true
  first : (other : List ℕ) → HasKey pairs other → test other ≡ true → is_le (bytes_cmp pair.key other) ≡ true

self-le : (x y : List ℕ) → y ≡ x → is_le (bytes_cmp x y) ≡ true
self-le x y same = ap (λ (k : List ℕ). is_le (bytes_cmp x k)) same ∙ ap is_le (tied_itself nat_list_cmp_total x)

first-here : (test : Test) (e : List ℕ × List ℕ) (pairs : Pairs) → test e.0 ≡ true → Above e.0 pairs → IsFirst test (e ∷ pairs) (pair_of e)
first-here test e pairs ok above = record {
  there = ap (λ (o : Ordering). cond (is_eq o) (Some e.1) (find bytes_cmp e.0 pairs)) (tied_itself nat_list_cmp_total e.0);
  passing = ok;
  first = λ other has pass. first_or e pairs other (is_le (bytes_cmp e.0 other) ≡ true) has (self-le e.0 other) (λ later. lt_le (bytes_cmp e.0 other) (above-has e.0 pairs other above later));
}

first-later : (test : Test) (e : List ℕ × List ℕ) (pairs : Pairs) (pair : Pair) → test e.0 ≡ false → IsFirst test pairs pair → IsFirst test (e ∷ pairs) pair
first-later test e pairs pair fails f =
    let apart : (key : List ℕ) → test key ≡ true → key ≡ e.0 → ⊥ = λ key ok same. let both : test e.0 ≡ true = ap test (sym same) ∙ ok in absurd cc in
    record {
      there = elim (eq_by_cmp bytes_cmp pair.key e.0) as (λ q. eq_by_cmp bytes_cmp pair.key e.0 ≡ q → cond q (Some e.1) (find bytes_cmp pair.key pairs) ≡ Some pair.value) [
        | true ↦ λ t. absurd (apart pair.key f.passing (same_key pair.key e.0 t))
        | false ↦ λ t. f.there
      ] refl;
      passing = f.passing;
      first = λ other has pass. first_or e pairs other (is_le (bytes_cmp pair.key other) ≡ true) has (λ same. absurd (apart other pass same)) (λ later. f.first other later pass);
    }

first-is : (test : Test) (pairs : Pairs) → is_sorted bytes_cmp pairs ≡ true → IfSome (first_from test pairs) (IsFirst test pairs)
first-is test [] sorted = tt
first-is test (e ∷ pairs) sorted =
    let h = and_parts (below_all bytes_cmp e.0 pairs) (is_sorted bytes_cmp pairs) sorted in
    elim (test e.0) as (λ q. test e.0 ≡ q → IfSome (cond q (Some (pair_of e)) (first_from test pairs)) (IsFirst test (e ∷ pairs))) [
      | true ↦ λ ok. first-here test e pairs ok h.0
      | false ↦ λ fails. elim (first_from test pairs) as (λ o. IfSome o (IsFirst test pairs) → IfSome o (IsFirst test (e ∷ pairs))) [
        | None ↦ λ f. tt
        | Some pair ↦ λ f. first-later test e pairs pair fails f
      ] (first-is test pairs h.1)
    ] refl

first-none : (test : Test) (pairs : Pairs) (other : List ℕ) → first_from test pairs ≡ None → HasKey pairs other → test other ≡ true → ⊥
first-none test [] other none has pass = absurd cc
first-none test (e ∷ pairs) other none has pass = elim (test e.0) as (λ q. test e.0 ≡ q → cond q (Some (pair_of e)) (first_from test pairs) ≡ None → ⊥) [
  | true ↦ λ ok none. absurd cc
  | false ↦ λ fails none. first_or e pairs other ⊥ has (λ same. let both : test e.0 ≡ true = ap test (sym same) ∙ pass in absurd cc) (λ later. first-none test pairs other none later pass)
] refl none

pub least-is : (strict : Bool) (key : List ℕ) (map : TrieMap) → IfSome (least strict key map) (IsLeast (passes strict key) map)
least-is strict key map = elim (first_from (passes strict key) (entries map)) as (λ o. IfSome o (IsFirst (passes strict key) (entries map)) → IfSome o (IsLeast (passes strict key) map)) [
  | None ↦ λ f. tt
  | Some pair ↦ λ f. record {
    there = get-entries map pair.key ∙ f.there;
    passing = f.passing;
    first = λ other has pass. f.first other (ap is_some (sym (get-entries map other)) ∙ has) pass;
  }
] (first-is (passes strict key) (entries map) (T-true _ (entries_sorted map)))

pub least-none : (strict : Bool) (key : List ℕ) (map : TrieMap) (other : List ℕ) → least strict key map ≡ None → IsSome (get map other) → IsTrue (passes strict key other) → ⊥
least-none strict key map other none has pass = first-none (passes strict key) (entries map) other none (ap is_some (sym (get-entries map other)) ∙ has) pass
