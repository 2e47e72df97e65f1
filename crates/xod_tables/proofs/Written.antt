-- What is read counts only where it is written so, so no two lists of bytes are read as one thing.
use Rattle.std.proofs.Common.{◌≡◌, ℕ, true, false, cond, List, Option, Some, None, refl, sym, ap, ◌∙◌, true≢false}
use Rattle.std.specs.Prelude.{is_some}
use Rattle.std.specs.Cmp.Lexicographic.{bytes_decides}
use Rattle.xod_carry.specs.Laws.{IsInjective}
use Rattle.xod_tables.specs.Reading.{is_written, only_written}

pub same_some : {A : Type 0} (x y : A) → Some x ≡ Some y → x ≡ y
same_some x y e = cc e

pub not_none : {A : Type 0} (x : A) → Some x ≡ None → ⊥
not_none x e = true≢false (ap is_some e)

-- what was read as something that is written so
pub written : {K : Type 0} (f : K → Option (List ℕ)) (q : List ℕ) (a : Option K) (k : K) → a ≡ Some k → f k ≡ Some q → only_written f q a ≡ Some k
written f q a k e is = ap (only_written f q) e ∙ ap (λ p. cond (is_written p q) (Some k) None) is ∙ ap (λ b. cond b (Some k) None) ((bytes_decides q q).1 refl)

was_it : (a : Option (List ℕ)) (q : List ℕ) → is_written a q ≡ true → a ≡ Some q
was_it None q h = absurd (true≢false (sym h))
was_it (Some p) q h = ap Some ((bytes_decides p q).0 h)

pub was_written : {K : Type 0} (f : K → Option (List ℕ)) (q : List ℕ) (a : Option K) (k : K) → only_written f q a ≡ Some k → f k ≡ Some q
was_written f q None k e = absurd (not_none k (sym e))
was_written f q (Some j) k e =
    elim (is_written (f j) q) as (λ b. is_written (f j) q ≡ b → cond b (Some j) None ≡ Some k → f k ≡ Some q) [
      | true ↦ λ h is. ap f (sym (same_some j k is)) ∙ was_it (f j) q h
      | false ↦ λ h is. absurd (not_none k (sym is))
    ] refl e

pub one_writing : {K : Type 0} (f : K → Option (List ℕ)) (a : List ℕ → Option K) → IsInjective (λ q. only_written f q (a q))
one_writing f a p q k g h = same_some p q (sym (was_written f p (a p) k g) ∙ was_written f q (a q) k h)
