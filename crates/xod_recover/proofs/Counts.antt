-- How many marks are open.
use Rattle.std.proofs.Common.{◌≡◌, ◌<◌, ◌≤◌, ◌⊎◌, ℕ, zero, suc, ◌+◌, ◌*◌, Bool, true, false, not, ◌&&◌, eqb, leb, List, length, take, length-take, sym, ◌∙◌, ap, subst, arith, inl, inr}
use mathlib.Core.Logic.{◌≢◌}
use Rattle.std.proofs.lemmas.Bool.{and_from, and_left, and_right, not_from_false, not_from_true, ne_eqb, eq-eqb, le-leb, lt-leb, cases_lt, cond-true, cond-false, cases_Bool, and_parts, leb-true, eqb-false, not-true}
use Rattle.std.proofs.Common.{get_or-take}
use Rattle.xod_log.specs.Ends.{gate_at}
use Rattle.xod_recover.specs.Opened.{opens, opened_from, open_count}

opens_true : (ends : List ℕ) (mark : ℕ) → 13 * (mark + 2) ≤ length ends → gate_at ends mark ≢ 0 → opens ends mark ≡ true
opens_true ends mark long gate = and_from _ _ (le-leb _ _ long) (not_from_false _ (ne_eqb _ _ gate))

opens_false : (ends : List ℕ) (mark : ℕ) → (gate_at ends mark ≡ 0) ⊎ (length ends < 13 * (mark + 2)) → opens ends mark ≡ false
opens_false ends mark (inl gate) = and_right _ _ (not_from_true _ (eq-eqb _ _ gate))
opens_false ends mark (inr short) = and_left _ _ (lt-leb _ _ short)

-- open up to a mark that is not
module _ (ends : List ℕ) (stop : ℕ) (open_before : (mark : ℕ) → mark < stop → opens ends mark ≡ true) (closed : opens ends stop ≡ false) where
  counted : (more mark k : ℕ) → mark + k ≡ stop → k ≤ more → opened_from ends mark more ≡ k
  counted zero mark k is le = omega (arith, le)
  counted (suc more) mark zero is le =
      let at : stop ≡ mark = omega (arith, is) in
      cond-false (opens ends mark) (suc (opened_from ends (suc mark) more)) 0 (subst (λ (j : ℕ). opens ends j ≡ false) at closed)
  counted (suc more) mark (suc k) is le =
      let lt : mark < stop = omega (arith, is) in
      let next : suc mark + k ≡ stop = omega (arith, is) in
      cond-true (opens ends mark) (suc (opened_from ends (suc mark) more)) 0 (open_before mark lt)
      ∙ ap suc (counted more (suc mark) k next (omega (arith, le)))

pub is_long : (ends : List ℕ) (mark : ℕ) → opens ends mark ≡ true → 13 * (mark + 2) ≤ length ends
is_long ends mark is_open = leb-true (13 * (mark + 2)) (length ends) (and_parts (leb (13 * (mark + 2)) (length ends)) (not (eqb (gate_at ends mark) 0)) is_open).0

within_length : (ends : List ℕ) (stop : ℕ) → ((mark : ℕ) → mark < stop → opens ends mark ≡ true) → stop ≤ length ends
within_length ends zero open_before = omega arith
within_length ends (suc stop) open_before = omega (arith, is_long ends stop (open_before stop (omega arith)))

pub count_by : (ends : List ℕ) (stop : ℕ) → ((mark : ℕ) → mark < stop → opens ends mark ≡ true) → opens ends stop ≡ false → open_count ends ≡ stop
unfolding open_count
count_by ends stop open_before closed = counted ends stop open_before closed (length ends) 0 stop (omega arith) (within_length ends stop open_before)

-- and the other way round
opened_stop : (ends : List ℕ) (more mark : ℕ) → length ends < 13 * (mark + more + 2) → opens ends (mark + opened_from ends mark more) ≡ false
opened_stop ends zero mark short = opens_false ends (mark + 0) (inr (omega (arith, short)))
opened_stop ends (suc more) mark short = elim (cases_Bool (opens ends mark)) [
  | inl opened ↦
      let count : opened_from ends mark (suc more) ≡ suc (opened_from ends (suc mark) more) = cond-true (opens ends mark) (suc (opened_from ends (suc mark) more)) 0 opened in
      let at : suc mark + opened_from ends (suc mark) more ≡ mark + opened_from ends mark (suc more) = omega (arith, count) in
      subst (λ (j : ℕ). opens ends j ≡ false) at (opened_stop ends more (suc mark) (omega (arith, short)))
  | inr closed ↦
      let count : opened_from ends mark (suc more) ≡ 0 = cond-false (opens ends mark) (suc (opened_from ends (suc mark) more)) 0 closed in
      let at : mark ≡ mark + opened_from ends mark (suc more) = omega (arith, count) in
      subst (λ (j : ℕ). opens ends j ≡ false) at closed
]

opened_before : (ends : List ℕ) (more mark i : ℕ) → mark ≤ i → i < mark + opened_from ends mark more → opens ends i ≡ true
opened_before ends zero mark i le lt = absurd (omega (arith, le, lt))
opened_before ends (suc more) mark i le lt = elim (cases_Bool (opens ends mark)) [
  | inl opened ↦
      let count : opened_from ends mark (suc more) ≡ suc (opened_from ends (suc mark) more) = cond-true (opens ends mark) (suc (opened_from ends (suc mark) more)) 0 opened in
      elim (cases_lt mark i) [
        | inl past ↦ opened_before ends more (suc mark) i (omega (arith, past)) (omega (arith, lt, count))
        | inr here ↦ let is : mark ≡ i = omega (arith, le, here) in subst (λ (j : ℕ). opens ends j ≡ true) is opened
      ]
  | inr closed ↦
      let count : opened_from ends mark (suc more) ≡ 0 = cond-false (opens ends mark) (suc (opened_from ends (suc mark) more)) 0 closed in
      absurd (omega (arith, le, lt, count))
]

pub stops : (ends : List ℕ) → opens ends (open_count ends) ≡ false
unfolding open_count
stops ends =
    let at : 0 + opened_from ends 0 (length ends) ≡ opened_from ends 0 (length ends) = omega arith in
    subst (λ (j : ℕ). opens ends j ≡ false) at (opened_stop ends (length ends) 0 (omega arith))

pub opens_below : (ends : List ℕ) (mark : ℕ) → mark < open_count ends → opens ends mark ≡ true
unfolding open_count
opens_below ends mark lt = opened_before ends (length ends) 0 mark (omega arith) (omega (arith, lt))

-- ends that were cut behind so many marks and the one that follows them
cut_opens : (ends : List ℕ) (marks i : ℕ) → i < marks → opens (take (13 * (marks + 1)) ends) i ≡ opens ends i
cut_opens ends marks i lt =
    let n = 13 * (marks + 1) in
    let gate : gate_at (take n ends) i ≡ gate_at ends i = get_or-take n ends (13 * i + 12) 0 (omega (arith, lt)) in
    let long : leb (13 * (i + 2)) (length (take n ends)) ≡ leb (13 * (i + 2)) (length ends) = elim (cases_lt (length ends) (13 * (i + 2))) [
      | inl short ↦ lt-leb (13 * (i + 2)) (length (take n ends)) (omega (arith, length-take n ends, short)) ∙ sym (lt-leb (13 * (i + 2)) (length ends) short)
      | inr fits ↦ le-leb (13 * (i + 2)) (length (take n ends)) (omega (arith, length-take n ends, fits, lt)) ∙ sym (le-leb (13 * (i + 2)) (length ends) fits)
    ] in
    ap (λ (b : Bool). b && not (eqb (gate_at (take n ends) i) 0)) long ∙ ap (λ (g : ℕ). leb (13 * (i + 2)) (length ends) && not (eqb g 0)) gate

pub cut_below : (ends : List ℕ) (marks : ℕ) → open_count ends < marks → open_count (take (13 * (marks + 1)) ends) ≡ open_count ends
cut_below ends marks few = count_by (take (13 * (marks + 1)) ends) (open_count ends)
    (λ i lt. cut_opens ends marks i (omega (arith, lt, few)) ∙ opens_below ends i lt)
    (cut_opens ends marks (open_count ends) few ∙ stops ends)

pub cut_above : (ends : List ℕ) (marks : ℕ) → marks ≤ open_count ends → open_count (take (13 * (marks + 1)) ends) ≡ marks
cut_above ends marks more = count_by (take (13 * (marks + 1)) ends) marks
    (λ i lt. cut_opens ends marks i lt ∙ opens_below ends i (omega (arith, lt, more)))
    (opens_false (take (13 * (marks + 1)) ends) marks (inr (omega (arith, length-take (13 * (marks + 1)) ends))))

-- as many as there are gates before the first that is 0, or before the marks end
pub count_is : (ends : List ℕ) (stop : ℕ) → ((mark : ℕ) → mark < stop → gate_at ends mark ≢ 0) → 13 * (stop + 1) ≤ length ends → (gate_at ends stop ≡ 0) ⊎ (length ends < 13 * (stop + 2))
    → open_count ends ≡ stop
count_is ends stop gates long closed = count_by ends stop (λ mark lt. opens_true ends mark (omega (arith, long, lt)) (gates mark lt)) (opens_false ends stop closed)

pub opens_gate : (ends : List ℕ) (mark : ℕ) → opens ends mark ≡ true → gate_at ends mark ≢ 0
opens_gate ends mark is_open zero_gate = eqb-false (gate_at ends mark) 0 (not-true (eqb (gate_at ends mark) 0) (and_parts (leb (13 * (mark + 2)) (length ends)) (not (eqb (gate_at ends mark) 0)) is_open).1) zero_gate
