-- Tests of each item of a list, after a change of the list.
use Rattle.std.proofs.Common.{◌≡◌, ℕ, zero, suc, Bool, true, false, cond, List, [], ◌∷◌, ◌++◌, set, refl, ap, subst, ◌∙◌}
use Rattle.std.specs.Prelude.{◌&&◌}
use Rattle.std.specs.List.{list_all, filter}
use Rattle.std.specs.declared.cmp.Ordering.{Ordering}
use Rattle.std.specs.declared.cmp.Ordering.TheVariants.{Less, Equal, Greater}
use Rattle.std.specs.FinMap.{FinMap, IsAntisymmetric, entries, insert, remove, put, entries-insert}
use Rattle.std.specs.FinMap.Entries.{by_order}
use Rattle.std.specs.Cmp.{IsTotalOrder}
use Rattle.std.proofs.lemmas.Bool.{false≢true}
use Rattle.xod_journal.proofs.MapLemmas.{entries-remove}

pub both : (a b : Bool) → a ≡ true → b ≡ true → (a && b) ≡ true
both a b p q = λ i. p i && q i

pub two : (a b : Bool) → (a && b) ≡ true → (a ≡ true) × (b ≡ true)
two true b h = (refl, h)
two false b h = absurd (false≢true h)

module _ {A : Type 0} (p : A → Bool) where
  pub all_pushed : (xs : List A) (x : A) → list_all p xs ≡ true → p x ≡ true → list_all p (xs ++ x ∷ []) ≡ true
  all_pushed [] x h e = both _ _ e refl
  all_pushed (y ∷ xs) x h e = let t = two _ _ h in both _ _ t.0 (all_pushed xs x t.1 e)

  pub all_set : (xs : List A) (i : ℕ) (x : A) → list_all p xs ≡ true → p x ≡ true → list_all p (set xs i x) ≡ true
  all_set [] i x h e = refl
  all_set (y ∷ xs) zero x h e = both _ _ e (two _ _ h).1
  all_set (y ∷ xs) (suc i) x h e = let t = two _ _ h in both _ _ t.0 (all_set xs i x t.1 e)

  pub all_filtered : (q : A → Bool) (xs : List A) → list_all p xs ≡ true → list_all p (filter q xs) ≡ true
  all_filtered q [] h = refl
  all_filtered q (y ∷ xs) h =
      let t = two (p y) (list_all p xs) h in
      let rest = all_filtered q xs t.1 in
      elim (q y) as (λ b. list_all p (cond b (y ∷ filter q xs) (filter q xs)) ≡ true) [ true ↦ both _ _ t.0 rest | false ↦ rest ]

pub all_too : {A : Type 0} (p q : A → Bool) → ((x : A) → p x ≡ true → q x ≡ true) → (xs : List A) → list_all p xs ≡ true → list_all q xs ≡ true
all_too p q more [] h = refl
all_too p q more (x ∷ xs) h = let t = two (p x) (list_all p xs) h in both _ _ (more x t.0) (all_too p q more xs t.1)

module _ {K X : Type 0} {R : K → K → Ordering} (o : IsTotalOrder R) (same : IsAntisymmetric R) (p : K × X → Bool) where
  all_put : (k : K) (v : X) (es : List (K × X)) → p (k, v) ≡ true → list_all p es ≡ true → list_all p (put R k v es) ≡ true
  all_put k v [] new h = both _ _ new refl
  all_put k v (e ∷ es) new h =
      let t = two (p e) (list_all p es) h in
      elim (R k e.0) as (λ r. R k e.0 ≡ r → list_all p (by_order r ((k, v) ∷ e ∷ es) ((e.0, v) ∷ es) (e ∷ put R k v es)) ≡ true) [
        | Less ↦ λ r. both _ _ new h
        | Equal ↦ λ r. both _ _ (subst (λ j. p (j, v) ≡ true) (same k e.0 r) new) t.1
        | Greater ↦ λ r. both _ _ t.0 (all_put k v es new t.1)
      ] refl

  pub all_inserted : (m : FinMap R X) (k : K) (v : X) → p (k, v) ≡ true → list_all p (entries m) ≡ true → list_all p (entries (insert m k v)) ≡ true
  all_inserted m k v new h = ap (list_all p) (entries-insert o m k v) ∙ all_put k v (entries m) new h

  pub all_removed : (m : FinMap R X) (k : K) → list_all p (entries m) ≡ true → list_all p (entries (remove m k)) ≡ true
  all_removed m k h = ap (list_all p) (entries-remove o same m k) ∙ all_filtered p _ (entries m) h
