-- Branches in memory as records above all others.
use Rattle.std.proofs.Common.{◌≡◌, ◌<◌, ◌≤◌, ℕ, zero, suc, ◌+◌, ◌-◌, Bool, true, cond, List, [], ◌∷◌, ◌++◌, length, Option, Some, None, slice_get, refl, sym, ◌∙◌, ap, arith, inl, inr}
use Rattle.std.specs.Prelude.{IsTrue}
use Rattle.std.specs.Option.{option_and_then}
use Rattle.std.proofs.lemmas.Bool.{and_from, cases_lt, le-ltb, lt-ltb}
use Rattle.xod_block.specs.declared.address.Address.{Address}
use Rattle.xod_block.specs.Addresses.{number_of}
use Rattle.xod_block.specs.Maps.{RecordsAt, OnlyMore}
use Rattle.xod_block.specs.Records.{Link, RecordValue, rise}
use Rattle.xod_trie.specs.declared.branch.Branch.{Branch}
use Rattle.xod_trie.specs.Branches.{branch_of}
use Rattle.xod_trie_mut.specs.Own.{HasParts, are_enough, is_whole, own_file, own_start, record_as, record_by, record_of, with_own}

-- below them the records stand as before
pub own-below : (own : List Branch) (records : RecordsAt) (n : ℕ) → n < own_start → with_own own records n ≡ records n
own-below own records n lt = ap (λ (q : Bool). cond q (records n) (option_and_then record_of (slice_get own (n - own_start)))) (lt-ltb n own_start lt)

pub own-at : (own : List Branch) (records : RecordsAt) (n index : ℕ) → n ≡ own_start + index → with_own own records n ≡ option_and_then record_of (slice_get own index)
own-at own records n index e =
    let above : own_start ≤ n = omega (arith, e) in
    let off : n - own_start ≡ index = omega (arith, e) in
    ap (λ (q : Bool). cond q (records n) (option_and_then record_of (slice_get own (n - own_start)))) (le-ltb n own_start above)
    ∙ ap (λ (i : ℕ). option_and_then record_of (slice_get own i)) off

pub own-number : (at : Address) → at.file ≡ own_file → number_of at ≡ own_start + at.at
own-number at e = omega (arith, e)

pub branch-back : (key : List ℕ) (v : Option (List ℕ)) (cs : List Link) → branch_of (Some (record_by key v cs)) ≡ Some (record { key = key; value = v; children = cs })
branch-back key None cs = refl
branch-back key (Some v) [] = refl
branch-back key (Some v) (c ∷ cs) = refl

pub whole-is : (b : Branch) → HasParts b → IsTrue (are_enough b.value (length b.children)) → is_whole b ≡ true
whole-is b parts enough = and_from (rise b.children) (are_enough b.value (length b.children)) parts.rising enough

pub whole-branch : (b : Branch) → is_whole b ≡ true → branch_of (record_of b) ≡ Some b
whole-branch b whole = ap (λ (q : Bool). branch_of (cond q (Some (record_as b)) None)) whole ∙ branch-back b.key b.value b.children

pub own-branch : (own : List Branch) (records : RecordsAt) (at : Address) (b : Branch) → at.file ≡ own_file → slice_get own at.at ≡ Some b → is_whole b ≡ true → branch_of (with_own own records (number_of at)) ≡ Some b
own-branch own records at b file is whole = ap branch_of (own-at own records (number_of at) at.at (own-number at file) ∙ ap (option_and_then record_of) is) ∙ whole-branch b whole

-- more of them change no record
get-more : (own more : List Branch) (index : ℕ) (b : Branch) → slice_get own index ≡ Some b → slice_get (own ++ more) index ≡ Some b
get-more [] more index b e = absurd cc
get-more (x ∷ own) more zero b e = e
get-more (x ∷ own) more (suc index) b e = get-more own more index b e

read-more : (o p : Option Branch) (item : RecordValue) → ((b : Branch) → o ≡ Some b → p ≡ Some b) → option_and_then record_of o ≡ Some item → option_and_then record_of p ≡ Some item
read-more None p item f e = absurd cc
read-more (Some b) p item f e = ap (option_and_then record_of) (f b refl) ∙ e

pub own-more : (own more : List Branch) (records : RecordsAt) (n : ℕ) → OnlyMore (with_own own records) (with_own (own ++ more) records) n
own-more own more records n below item le e = elim (cases_lt below own_start) [
  | inl lt ↦ own-below (own ++ more) records below lt ∙ sym (own-below own records below lt) ∙ e
  | inr ge ↦
      let index = below - own_start in
      let here : below ≡ own_start + index = omega arith in
      own-at (own ++ more) records below index here
      ∙ read-more (slice_get own index) (slice_get (own ++ more) index) item (get-more own more index) (sym (own-at own records below index here) ∙ e)
]
