-- The steps of a pass over the numbers of two lists that rise.
use Rattle.std.proofs.Common.{◌≡◌, ℕ, Bool, true, false, not, cond, List, [], ◌∷◌, ◌++◌, map, refl, sym, ap, ◌∙◌, subst, IsTrue, append_assoc, length, arith, ◌⊎◌, inl, inr, nat_cmp, Ordering, Less, Equal, Greater}
use Rattle.std.specs.Ordering.{ordering_reverse}
use Rattle.std.specs.FinMap.{nat_cmp-IsAntisymmetric}
use Rattle.std.proofs.lemmas.List.{append-nil, map-append}
use Rattle.xod_base.specs.declared.value.EntityId.{EntityId}
use Rattle.xod_base.specs.Ids.{id_of_number}
use Rattle.xod_base.specs.Evaluation.{has_id, rising}
use Rattle.xod_sets.specs.Rising.{is_before, rises}
use Rattle.xod_sets.proofs.Numbers.{cmp_of_numbers}
use Rattle.xod_sets.proofs.Rising.{id_total, second_true, rising_alone, rises_filter}
use Rattle.xod_sets.proofs.Steps.{IsStepwise, either, both, first_alone, kept_none, kept_all}

abbrev pub ids : List ℕ → List EntityId
ids numbers = map id_of_number numbers

-- What was put out and what is to come of two lists make the whole; both lists rise.
pub record Passes (answer : List EntityId → List EntityId → List EntityId) (out left right : List ℕ) (whole : List EntityId) : Type 0 where
  pub rises_left : IsTrue (rises (ids left))
  pub rises_right : IsTrue (rises (ids right))
  pub to_come : ids out ++ answer (ids left) (ids right) ≡ whole

put_out : (puts : Bool) (out : List ℕ) (n : ℕ) (rest : List EntityId) → ids (cond puts (out ++ n ∷ []) out) ++ rest ≡ ids out ++ cond puts (id_of_number n ∷ rest) rest
put_out true out n rest = ap (λ l. l ++ rest) (map-append id_of_number out (n ∷ [])) ∙ append_assoc (ids out) (id_of_number n ∷ []) rest
put_out false out n rest = refl

-- the lists of a pass with their first numbers, and what their order is
pub record Fronts (answer : List EntityId → List EntityId → List EntityId) (out left right : List ℕ) (whole : List EntityId) (n m : ℕ) (ns ms : List ℕ) (order : Ordering) : Type 0 where
  pub passes : Passes answer out left right whole
  pub left_is : left ≡ n ∷ ns
  pub right_is : right ≡ m ∷ ms
  pub order_is : order ≡ nat_cmp n m

module _ {answer : List EntityId → List EntityId → List EntityId} {out left right : List ℕ} {whole : List EntityId} {n m : ℕ} {ns ms : List ℕ} {order : Ordering} (f : Fronts answer out left right whole n m ns ms order) where
  rises_n : IsTrue (rises (ids (n ∷ ns)))
  rises_n = subst (λ (xs : List ℕ). IsTrue (rises (ids xs))) f.left_is f.passes.rises_left

  rises_m : IsTrue (rises (ids (m ∷ ms)))
  rises_m = subst (λ (xs : List ℕ). IsTrue (rises (ids xs))) f.right_is f.passes.rises_right

  later_n : IsTrue (rises (ids ns))
  later_n = second_true (is_before (id_of_number n) (ids ns)) (rises (ids ns)) rises_n

  later_m : IsTrue (rises (ids ms))
  later_m = second_true (is_before (id_of_number m) (ids ms)) (rises (ids ms)) rises_m

  -- one step more of the answer, with x put out where `puts` says so
  stepped : (puts : Bool) (next : List ℕ) (k : ℕ) (rest : List EntityId) → next ≡ cond puts (out ++ k ∷ []) out
      → answer (ids (n ∷ ns)) (ids (m ∷ ms)) ≡ cond puts (id_of_number k ∷ rest) rest → ids next ++ rest ≡ whole
  stepped puts next k rest is step = ap (λ l. ids l ++ rest) is ∙ put_out puts out k rest ∙ ap (λ l. ids out ++ l) (sym step)
      ∙ (λ i. ids out ++ answer (ids (sym f.left_is i)) (ids (sym f.right_is i))) ∙ f.passes.to_come

  pub step_less : {a b c : Bool} → IsStepwise answer a b c → order ≡ Less → (next : List ℕ) → next ≡ cond a (out ++ n ∷ []) out → Passes answer next ns right whole
  step_less {a} s is next next_is = record {
    rises_left = later_n;
    rises_right = f.passes.rises_right;
    to_come = ap (λ l. ids next ++ answer (ids ns) (ids l)) f.right_is ∙ stepped a next n (answer (ids ns) (ids (m ∷ ms))) next_is
        (s.less (id_of_number n) (id_of_number m) (ids ns) (ids ms) (cmp_of_numbers n m ∙ sym f.order_is ∙ is) rises_n rises_m);
  }

  pub step_same : {a b c : Bool} → IsStepwise answer a b c → order ≡ Equal → (next : List ℕ) → next ≡ cond b (out ++ n ∷ []) out → Passes answer next ns ms whole
  step_same {b = b} s is next next_is = record {
    rises_left = later_n;
    rises_right = later_m;
    to_come = stepped b next n (answer (ids ns) (ids ms)) next_is
        (s.same (id_of_number n) (id_of_number m) (ids ns) (ids ms) (ap id_of_number (nat_cmp-IsAntisymmetric n m (sym f.order_is ∙ is))) rises_n rises_m);
  }

  pub step_greater : {a b c : Bool} → IsStepwise answer a b c → order ≡ Greater → (next : List ℕ) → next ≡ cond c (out ++ m ∷ []) out → Passes answer next left ms whole
  step_greater {c = c} s is next next_is = record {
    rises_left = f.passes.rises_left;
    rises_right = later_m;
    to_come = ap (λ l. ids next ++ answer (ids l) (ids ms)) f.left_is ∙ stepped c next m (answer (ids (n ∷ ns)) (ids ms)) next_is
        (s.greater (id_of_number n) (id_of_number m) (ids ns) (ids ms)
        (id_total.antisymm (id_of_number m) (id_of_number n) ∙ ap ordering_reverse (cmp_of_numbers n m ∙ sym f.order_is ∙ is)) rises_n rises_m);
  }

-- ---- the end of a pass, where one of the lists is empty

abbrev pub OneIsEmpty : List ℕ → List ℕ → Type 0
OneIsEmpty left right = (length left ≡ 0) ⊎ (length right ≡ 0)

not_empty : {A : Type 0} (x : A) (xs : List A) → length (x ∷ xs) ≡ 0 → ⊥
not_empty x xs e = omega arith

ended : {answer : List EntityId → List EntityId → List EntityId} {out left right : List ℕ} {whole : List EntityId} → Passes answer out left right whole
    → (rest next : List ℕ) → answer (ids left) (ids right) ≡ ids rest → next ≡ out ++ rest → ids next ≡ whole
ended {out = out} p rest next is next_is = ap ids next_is ∙ map-append id_of_number out rest ∙ ap (λ l. ids out ++ l) (sym is) ∙ p.to_come

either_end : (left right : List ℕ) → OneIsEmpty left right → IsTrue (rises (ids left)) → IsTrue (rises (ids right)) → either (ids left) (ids right) ≡ ids (left ++ right)
either_end [] right empty h k = rising_alone (ids right) k
either_end (n ∷ ns) [] empty h k = ap rising (append-nil (ids (n ∷ ns))) ∙ rising_alone (ids (n ∷ ns)) h ∙ sym (ap ids (append-nil (n ∷ ns)))
either_end (n ∷ ns) (m ∷ ms) (inl e) h k = absurd (not_empty n ns e)
either_end (n ∷ ns) (m ∷ ms) (inr e) h k = absurd (not_empty m ms e)

pub ended_either : {out left right : List ℕ} {whole : List EntityId} → Passes either out left right whole → OneIsEmpty left right
    → (next last : List ℕ) → next ≡ out ++ left → last ≡ next ++ right → ids last ≡ whole
ended_either {out} {left} {right} p empty next last next_is last_is =
    ended p (left ++ right) last (either_end left right empty p.rises_left p.rises_right) (last_is ∙ ap (λ l. l ++ right) next_is ∙ append_assoc out left right)

both_end : (left right : List ℕ) → OneIsEmpty left right → both (ids left) (ids right) ≡ []
both_end [] right empty = refl
both_end (n ∷ ns) [] empty = kept_none (ids (n ∷ ns))
both_end (n ∷ ns) (m ∷ ms) (inl e) = absurd (not_empty n ns e)
both_end (n ∷ ns) (m ∷ ms) (inr e) = absurd (not_empty m ms e)

pub ended_both : (a b : List ℕ) {out left right : List ℕ} → Passes both out left right (both (ids a) (ids b)) → OneIsEmpty left right → IsTrue (rises (ids a))
    → ids out ≡ rising (both (ids a) (ids b))
ended_both a b {out} {left} {right} p empty h = ended p [] out (both_end left right empty) (sym (append-nil out))
    ∙ sym (rising_alone (both (ids a) (ids b)) (rises_filter (has_id (ids b)) (ids a) h))

first_end : (left right : List ℕ) → OneIsEmpty left right → first_alone (ids left) (ids right) ≡ ids left
first_end [] right empty = refl
first_end (n ∷ ns) [] empty = kept_all (ids (n ∷ ns))
first_end (n ∷ ns) (m ∷ ms) (inl e) = absurd (not_empty n ns e)
first_end (n ∷ ns) (m ∷ ms) (inr e) = absurd (not_empty m ms e)

pub ended_first : (a b : List ℕ) {out left right : List ℕ} → Passes first_alone out left right (first_alone (ids a) (ids b)) → OneIsEmpty left right → IsTrue (rises (ids a))
    → (next : List ℕ) → next ≡ out ++ left → ids next ≡ rising (first_alone (ids a) (ids b))
ended_first a b {left = left} {right = right} p empty h next next_is = ended p left next (first_end left right empty) next_is
    ∙ sym (rising_alone (first_alone (ids a) (ids b)) (rises_filter (λ id. not (has_id (ids b) id)) (ids a) h))
