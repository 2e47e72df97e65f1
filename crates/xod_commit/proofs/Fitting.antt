-- Touched keys that may be committed, one after another.
use Rattle.std.proofs.Common.{◌≡◌, ℕ, true, false, cond, eqb, List, Option, Some, None, refl, sym, ap, subst, ◌∙◌}
use Rattle.std.specs.Prelude.{IfSome, IsSome}
use Rattle.std.specs.Cmp.Lexicographic.{nat_list_cmp_total}
use Rattle.std.specs.FinMap.{empty, get, get-empty, get-insert, insert}
use Rattle.std.proofs.lemmas.Bool.{eqb-true}
use Rattle.xod_base.specs.Values.{bytes_cmp}
use Rattle.xod_overlay.specs.Marks.{Mark, TouchMap, touching}
use Rattle.xod_trie.proofs.CallerLemmas.{tied}
use Rattle.xod_trie_mut.proofs.CallerLemmas.{same_key}
use Rattle.xod_commit.specs.Blocks.{Fit, FitsTouch, IsTreeNumber}

not-some : (o : Option Mark) → o ≡ None → IsSome o → ⊥
not-some None is some = absurd cc
not-some (Some mark) is some = absurd cc

pub fit-none : (touches : ℕ → TouchMap) → ((tree : ℕ) → touches tree ≡ empty) → Fit touches
fit-none touches none =
    let nothing : (tree : ℕ) (key : List ℕ) → get (touches tree) key ≡ None = λ tree key. ap (λ (t : TouchMap). get t key) (none tree) ∙ get-empty bytes_cmp key in
    record {
      numbered = λ tree key some. absurd (not-some (get (touches tree) key) (nothing tree key) some);
      parts = λ tree key. subst (λ (o : Option Mark). IfSome o (FitsTouch key)) (sym (nothing tree key)) tt;
    }

module _ (touches : ℕ → TouchMap) (tree : ℕ) (key : List ℕ) (mark : Mark) (fit : Fit touches) (number : IsTreeNumber tree) (fits : FitsTouch key mark) where
  own-fits : (k : List ℕ) → IfSome (get (insert (touches tree) key mark) k) (FitsTouch k)
  own-fits k = subst (λ (o : Option Mark). IfSome o (FitsTouch k)) (sym (get-insert nat_list_cmp_total (touches tree) key mark k))
      (elim (tied k key) as (λ b. tied k key ≡ b → IfSome (cond b (Some mark) (get (touches tree) k)) (FitsTouch k)) [
        | true ↦ λ t. subst (λ (q : List ℕ). FitsTouch q mark) (sym (same_key k key t)) fits
        | false ↦ λ t. fit.parts tree k
      ] refl)

  pub fit-more : Fit (touching touches tree key mark)
  fit-more = record {
    numbered = λ other k some. elim (eqb other tree) as (λ b. eqb other tree ≡ b → IsSome (get (cond b (insert (touches tree) key mark) (touches other)) k) → IsTreeNumber other) [
      | true ↦ λ same there. subst IsTreeNumber (sym (eqb-true other tree same)) number
      | false ↦ λ differ there. fit.numbered other k there
    ] refl some;
    parts = λ other k. elim (eqb other tree) as (λ b. IfSome (get (cond b (insert (touches tree) key mark) (touches other)) k) (FitsTouch k)) [
      | true ↦ own-fits k
      | false ↦ fit.parts other k
    ];
  }
