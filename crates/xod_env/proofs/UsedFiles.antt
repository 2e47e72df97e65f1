-- Which log files are used, as the log says it and as the check counts it.
use Rattle.std.proofs.Common.{◌≡◌, ◌<◌, ℕ, ◌+◌, ◌*◌, Bool, true, false, not, ◌&&◌, eqb, leb, List, length, sym, ◌∙◌, ap, subst, arith, inl, inr}
use Rattle.std.proofs.lemmas.Bool.{cases_Bool, cases_lt, le-leb, lt-ltb, ltb-true, ne_eqb, true≢false}
use Rattle.xod_log.specs.Ends.{IsUsed, gate_at, ends_of}
use Rattle.xod_recover.specs.Opened.{is_used, open_count, opens}
use Rattle.xod_recover.proofs.CallerLemmas.{is_long, opens_below, opens_gate, stops, used_by_count, used_has}
use Rattle.xod_volume.specs.Files.{Files, bytes_of}

pub used-is : (files : Files) (file : ℕ) → is_used files file ≡ true → IsUsed file files
used-is files file used =
    let pair = used_has files file used in
    let ends = bytes_of files (ends_of file) in
    let first = opens_below ends 0 (ltb-true 0 (open_count ends) pair.some) in
    record {
      has_body = pair.body;
      has_ends = pair.ends;
      opened = record {
        gates = λ earlier le zero_gate. let is : earlier ≡ 0 = omega (arith, le) in opens_gate ends 0 first (subst (λ (k : ℕ). gate_at ends k ≡ 0) is zero_gate);
        followed = is_long ends 0 first;
      };
    }

counted-first : (ends : List ℕ) → opens ends 0 ≡ true → 0 < open_count ends
counted-first ends first = elim (cases_lt 0 (open_count ends)) [
  | inl lt ↦ lt
  | inr le ↦
      let none : open_count ends ≡ 0 = omega (arith, le) in
      absurd (true≢false (sym first ∙ subst (λ (k : ℕ). opens ends k ≡ false) none (stops ends)))
]

pub used-open : (files : Files) (file : ℕ) → IsUsed file files → is_used files file ≡ true
used-open files file used =
    let ends = bytes_of files (ends_of file) in
    let gate : eqb (gate_at ends 0) 0 ≡ false = ne_eqb (gate_at ends 0) 0 (used.opened.gates 0 (omega arith)) in
    let long : leb (13 * (0 + 2)) (length ends) ≡ true = le-leb (13 * (0 + 2)) (length ends) used.opened.followed in
    let first : opens ends 0 ≡ true = ap (λ (b : Bool). b && not (eqb (gate_at ends 0) 0)) long ∙ ap (λ (b : Bool). not b) gate in
    used_by_count files file used.has_body used.has_ends ∙ lt-ltb 0 (open_count ends) (counted-first ends first)

pub used-false : (files : Files) (file : ℕ) → ¬ (IsUsed file files) → is_used files file ≡ false
used-false files file not_used = elim (cases_Bool (is_used files file)) [
  | inl used ↦ absurd (not_used (used-is files file used))
  | inr unused ↦ unused
]

pub not-used : (files : Files) (file : ℕ) → is_used files file ≡ false → ¬ (IsUsed file files)
not-used files file unused used = true≢false (sym (used-open files file used) ∙ unused)
