-- How many sessions have not stopped: no more than there are, and one fewer after a stop.
use Rattle.std.proofs.Common.{◌≡◌, ◌≤◌, ◌<◌, ℕ, zero, suc, ◌+◌, Bool, true, false, cond, Option, Some, None, refl, sym, ap, ◌∙◌, arith, eqb-true, eq-eqb, add-zero}
use Rattle.std.specs.Prelude.{is_some, ◌==◌}
use Rattle.std.specs.FinMap.{get, insert}
use Rattle.std.proofs.lemmas.Bool.{false≢true}
use Rattle.xod_journal.specs.Books.{Books, has_stopped}
use Rattle.xod_journal.proofs.CallerLemmas.{get-inserted, get-inserted_other}
use Rattle.xod_books.specs.Going.{going, still_going}

going-most : (n : ℕ) (books : Books) → going n books ≤ n
going-most zero books = omega arith
going-most (suc n) books =
    let fewer = going-most n books in
    elim (has_stopped books (suc n)) as (λ b. going n books + cond b 0 1 ≤ suc n) [ true ↦ omega arith | false ↦ omega arith ]

pub still_going-most : (sessions : ℕ) (books : Option Books) → still_going sessions books ≤ sessions
still_going-most sessions None = omega arith
still_going-most sessions (Some books) = going-most sessions books

one_over : (fewer more : ℕ) (b : Bool) → fewer + 1 ≡ more → (fewer + cond b 0 1) + 1 ≡ more + cond b 0 1
one_over fewer more true e = omega arith
one_over fewer more false e = omega arith

unlike : (q k : ℕ) → (q ≡ k → ⊥) → (q == k) ≡ false
unlike q k not = elim (q == k) as (λ b. (q == k) ≡ b → b ≡ false) [ true ↦ λ is. absurd (not (eqb-true q k is)) | false ↦ λ is. refl ] refl

unequal : (q k : ℕ) → (q == k) ≡ false → q ≡ k → ⊥
unequal q k is same = false≢true (sym is ∙ eq-eqb q k same)

module _ (actor : ℕ) (books next : Books) (stops : next.stopped ≡ insert books.stopped actor tt) (was : has_stopped books actor ≡ false) where
  others : (q : ℕ) → (q == actor) ≡ false → has_stopped next q ≡ has_stopped books q
  others q apart = ap (λ m. is_some (get m q)) stops ∙ ap is_some (get-inserted_other books.stopped actor q tt apart)

  own : has_stopped next actor ≡ true
  own = ap (λ m. is_some (get m actor)) stops ∙ ap is_some (get-inserted books.stopped actor tt)

  going-below : (n : ℕ) → n < actor → going n next ≡ going n books
  going-below zero below = refl
  going-below (suc n) below =
      let same = others (suc n) (unlike (suc n) actor (λ is. omega arith)) in
      λ i. going-below n (omega arith) i + cond (same i) 0 1

  pub going-stopped : (n : ℕ) → 1 ≤ actor → actor ≤ n → going n next + 1 ≡ going n books
  going-stopped zero least most = absurd (omega arith)
  going-stopped (suc n) least most =
      elim (suc n == actor) as (λ b. (suc n == actor) ≡ b → (going n next + cond (has_stopped next (suc n)) 0 1) + 1 ≡ going n books + cond (has_stopped books (suc n)) 0 1) [
        | true ↦ λ is.
            let here : suc n ≡ actor = eqb-true (suc n) actor is in
            let below : going n next ≡ going n books = going-below n (omega arith) in
            let new : has_stopped next (suc n) ≡ true = ap (has_stopped next) here ∙ own in
            let old : has_stopped books (suc n) ≡ false = ap (has_stopped books) here ∙ was in
            (λ i. (below i + cond (new i) 0 1) + 1) ∙ (λ i. (add-zero (going n books) i) + 1) ∙ (λ i. going n books + cond (sym old i) 0 1)
        | false ↦ λ is.
            let fewer = going-stopped n least (omega (arith, unequal (suc n) actor is)) in
            (λ i. (going n next + cond (others (suc n) is i) 0 1) + 1) ∙ one_over _ _ (has_stopped books (suc n)) fewer
      ] refl
