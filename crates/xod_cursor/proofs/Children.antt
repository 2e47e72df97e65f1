-- Which entries under the children of a branch pass, where the key goes on with a byte.
use Rattle.std.proofs.Common.{◌≡◌, ◌≤◌, ℕ, zero, suc, List, [], ◌∷◌, ◌++◌, drop, Bool, true, cond, Some, slice_get, refl, sym, ◌∙◌, ap, arith, inl, inr}
use Rattle.std.proofs.lemmas.Bool.{cases_lt, lt-ltb, le-ltb}
use Rattle.xod_base.specs.Views.{Entry, Test}
use Rattle.xod_block.specs.Maps.{RecordsAt, Pairs, under, map_at}
use Rattle.xod_block.specs.Records.{Link, rise}
use Rattle.xod_block.proofs.CallerLemmas.{Joins, children-join, rise-rest}
use Rattle.xod_trie.specs.Least.{passes}
use Rattle.xod_trie.proofs.CallerLemmas.{AllAbove}
use Rattle.xod_cursor.specs.Entries.{kept}
use Rattle.xod_cursor.specs.Wants.{count_below, entries_under}
use Rattle.xod_cursor.proofs.Passing.{passes-greater_byte, passes-lesser_byte, passes-same_byte}
use Rattle.xod_cursor.proofs.Kept.{kept-append, kept-under_same, kept-under_all, kept-under_none}

pub no_entries : (es : List Entry) → Some [] ≡ Some es → es ≡ []
no_entries es e = cc e

module _ (records : RecordsAt) (at : ℕ) where
  abbrev pub Joining : Link → List Link → Pairs → Type 0
  Joining child children pairs = Joins (map_at records) at child children pairs

  -- those of the first child, and those of the others
  kept-join : (p : Test) (c : Link) (cs : List Link) (es : Pairs) (j : Joining c cs es) → kept p es ≡ kept p (under (c.0 ∷ []) j.first) ++ kept p j.others
  kept-join p c cs es j = ap (kept p) j.whole ∙ kept-append p (under (c.0 ∷ []) j.first) j.others

  -- all of them, where each key with a byte passes
  pub children-all : (p : Test) → ((c : ℕ) (k : List ℕ) → p (c ∷ k) ≡ true) → (cs : List Link) (es : Pairs) → entries_under records at cs ≡ Some es → kept p es ≡ es
  children-all p all [] es e = ap (kept p) (no_entries es e) ∙ sym (no_entries es e)
  children-all p all (c ∷ cs) es e =
      let j = children-join (map_at records) at c cs es e in
      kept-join p c cs es j
      ∙ ap (λ (l : Pairs). l ++ kept p j.others) (kept-under_all p (c.0 ∷ []) (λ k. all c.0 k) j.first)
      ∙ ap (λ (l : Pairs). under (c.0 ∷ []) j.first ++ l) (children-all p all cs j.others j.others_is)
      ∙ sym j.whole

  -- all under greater bytes
  pub children-above : (strict : Bool) (byte : ℕ) (left : List ℕ) (cs : List Link) (es : Pairs) → AllAbove byte cs → entries_under records at cs ≡ Some es → kept (passes strict (byte ∷ left)) es ≡ es
  children-above strict byte left [] es above e = ap (kept (passes strict (byte ∷ left))) (no_entries es e) ∙ sym (no_entries es e)
  children-above strict byte left (c ∷ cs) es above e =
      let p : Test = passes strict (byte ∷ left) in
      let j = children-join (map_at records) at c cs es e in
      kept-join p c cs es j
      ∙ ap (λ (l : Pairs). l ++ kept p j.others) (kept-under_all p (c.0 ∷ []) (λ k. passes-greater_byte strict byte c.0 left k above.0) j.first)
      ∙ ap (λ (l : Pairs). under (c.0 ∷ []) j.first ++ l) (children-above strict byte left cs j.others above.1 j.others_is)
      ∙ sym j.whole

  -- under the byte those that pass what is left behind it, and all under the greater ones
  pub children-into : (strict : Bool) (byte : ℕ) (left : List ℕ) (c : Link) (cs : List Link) (es : Pairs) (j : Joining c cs es) → c.0 ≡ byte → AllAbove byte cs → kept (passes strict (byte ∷ left)) es ≡ under (c.0 ∷ []) (kept (passes strict left) j.first) ++ j.others
  children-into strict byte left c cs es j same above =
      kept-join (passes strict (byte ∷ left)) c cs es j
      ∙ ap (λ (l : Pairs). l ++ kept (passes strict (byte ∷ left)) j.others) (kept-under_same (passes strict (byte ∷ left)) (passes strict left) (c.0 ∷ []) (λ k. ap (λ (b : ℕ). passes strict (byte ∷ left) (b ∷ k)) same ∙ passes-same_byte strict byte left k) j.first)
      ∙ ap (λ (l : Pairs). under (c.0 ∷ []) (kept (passes strict left) j.first) ++ l) (children-above strict byte left cs j.others above j.others_is)

  -- the entries of some children, among which all that pass are
  pub record Later (p : Test) (cs : List Link) (es : Pairs) : Type 0 where
    pub others : Pairs
    pub others_is : entries_under records at cs ≡ Some others
    pub is : kept p es ≡ kept p others

  -- none under lesser bytes
  pub children-below : (strict : Bool) (byte : ℕ) (left : List ℕ) (cs : List Link) (es : Pairs) → entries_under records at cs ≡ Some es → Later (passes strict (byte ∷ left)) (drop (count_below byte cs) cs) es
  children-below strict byte left [] es e = record { others = es; others_is = e; is = refl }
  children-below strict byte left (c ∷ cs) es e =
      let p : Test = passes strict (byte ∷ left) in
      let from : Bool → List Link = λ b. drop (cond b (suc (count_below byte cs)) 0) (c ∷ cs) in
      elim (cases_lt c.0 byte) [
        | inl lt ↦
            let j = children-join (map_at records) at c cs es e in
            let later = children-below strict byte left cs j.others j.others_is in
            record {
              others = later.others;
              others_is = ap (λ (b : Bool). entries_under records at (from b)) (lt-ltb c.0 byte lt) ∙ later.others_is;
              is = kept-join p c cs es j
                  ∙ ap (λ (l : Pairs). l ++ kept p j.others) (kept-under_none p (c.0 ∷ []) (λ k. passes-lesser_byte strict byte c.0 left k lt) j.first)
                  ∙ later.is;
            }
        | inr ge ↦ record { others = es; others_is = ap (λ (b : Bool). entries_under records at (from b)) (le-ltb c.0 byte ge) ∙ e; is = refl }
      ]

pub rise-drop : (n : ℕ) (cs : List Link) → rise cs ≡ true → rise (drop n cs) ≡ true
rise-drop zero cs up = up
rise-drop (suc n) [] up = up
rise-drop (suc n) (c ∷ cs) up = rise-drop n cs (rise-rest c cs up)

-- the child at that place does not stand under a lesser byte
pub place-not_below : (byte : ℕ) (cs : List Link) (c : Link) → slice_get cs (count_below byte cs) ≡ Some c → byte ≤ c.0
place-not_below byte [] c e = absurd cc
place-not_below byte (d ∷ cs) c e = elim (cases_lt d.0 byte) [
  | inl lt ↦ place-not_below byte cs c (sym (ap (λ (b : Bool). slice_get (d ∷ cs) (cond b (suc (count_below byte cs)) 0)) (lt-ltb d.0 byte lt)) ∙ e)
  | inr ge ↦
      let here : Some d ≡ Some c = sym (ap (λ (b : Bool). slice_get (d ∷ cs) (cond b (suc (count_below byte cs)) 0)) (le-ltb d.0 byte ge)) ∙ e in
      let same : d ≡ c = cc here in
      let byte_same : d.0 ≡ c.0 = ap (λ (l : Link). l.0) same in
      omega (arith, ge, byte_same)
]
