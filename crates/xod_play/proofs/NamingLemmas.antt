-- The name of the session with a number.
use Rattle.std.proofs.Common.{◌≡◌, ◌≢◌, ℕ, zero, suc, ◌+◌, ◌<◌, ◌≤◌, true, false, cond, List, [], ◌∷◌, length, get_or, refl, ap, ◌∙◌, arith, eqb-true, eq-eqb}
use Rattle.std.specs.Prelude.{◌==◌}
use Rattle.xod_session.specs.Transcripts.{name_of}

other : (a b : ℕ) → (a ≢ b) → (a == b) ≡ false
other a b apart = elim (a == b) as (λ p. (a == b) ≡ p → p ≡ false) [ true ↦ λ e. absurd (apart (eqb-true a b e)) | false ↦ λ e. refl ] refl

pub name_before : (number : ℕ) (names : List (List ℕ)) (actor : ℕ) → actor < number → name_of number names actor ≡ []
name_before number [] actor h = refl
name_before number (name ∷ names) actor h =
    ap (λ b. cond b name (name_of (number + 1) names actor)) (other actor number (λ e. let is : actor ≡ number = e in omega arith)) ∙ name_before (number + 1) names actor (omega arith)

pub name_past : (number : ℕ) (names : List (List ℕ)) (actor : ℕ) → number + length names ≤ actor → name_of number names actor ≡ []
name_past number [] actor h = refl
name_past number (name ∷ names) actor h =
    ap (λ b. cond b name (name_of (number + 1) names actor)) (other actor number (λ e. let is : actor ≡ number = e in omega arith)) ∙ name_past (number + 1) names actor (omega arith)

pub name_at : (number : ℕ) (names : List (List ℕ)) (at actor : ℕ) (d : List ℕ) → at < length names → actor ≡ number + at → name_of number names actor ≡ get_or names at d
name_at number [] at actor d h is = absurd (omega arith)
name_at number (name ∷ names) zero actor d h is = ap (λ b. cond b name (name_of (number + 1) names actor)) (eq-eqb actor number (omega arith))
name_at number (name ∷ names) (suc at) actor d h is =
    ap (λ b. cond b name (name_of (number + 1) names actor)) (other actor number (λ e. let same : actor ≡ number = e in omega arith)) ∙ name_at (number + 1) names at actor d (omega arith) (omega arith)
