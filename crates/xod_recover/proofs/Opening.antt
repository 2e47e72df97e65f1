-- How many marks are open, from one mark to the next.
use Rattle.std.proofs.Common.{◌≡◌, ◌≤◌, ℕ, zero, suc, ◌+◌, ◌*◌, ◌-◌, Bool, true, false, not, cond, leb, eqb, List, length, refl, ap, ◌∙◌, arith}
use Rattle.std.proofs.lemmas.Bool.{and_parts, leb-true}
use Rattle.xod_log.specs.Ends.{gate_at}
use Rattle.xod_recover.specs.Opened.{opens, opened_from, open_count}

pub opened-first : (ends : List ℕ) → 0 + opened_from ends 0 (length ends - 0) ≡ open_count ends
unfolding open_count
opened-first ends = let whole : length ends - 0 ≡ length ends = omega arith in omega (arith, ap (opened_from ends 0) whole)

pub opens-followed : (ends : List ℕ) (mark : ℕ) → opens ends mark ≡ true → 13 * (mark + 2) ≤ length ends
opens-followed ends mark e = leb-true (13 * (mark + 2)) (length ends) (and_parts (leb (13 * (mark + 2)) (length ends)) (not (eqb (gate_at ends mark) 0)) e).0

opened-suc : (ends : List ℕ) (mark more : ℕ) → opens ends mark ≡ true → opened_from ends mark (suc more) ≡ suc (opened_from ends (suc mark) more)
opened-suc ends mark more e = ap (λ (b : Bool). cond b (suc (opened_from ends (suc mark) more)) 0) e

pub opened-more : (ends : List ℕ) (mark : ℕ) → opens ends mark ≡ true → mark + 1 + opened_from ends (mark + 1) (length ends - (mark + 1)) ≡ mark + opened_from ends mark (length ends - mark)
opened-more ends mark e =
    let next : mark + 1 ≡ suc mark = omega arith in
    let rest : length ends - mark ≡ suc (length ends - (mark + 1)) = omega (arith, opens-followed ends mark e) in
    let step = ap (opened_from ends mark) rest ∙ opened-suc ends mark (length ends - (mark + 1)) e in
    let same = ap (λ (m : ℕ). opened_from ends m (length ends - (mark + 1))) next in
    omega (arith, step, same)

pub opened-end : (ends : List ℕ) (mark more : ℕ) → opens ends mark ≡ false → opened_from ends mark more ≡ 0
opened-end ends mark zero e = refl
opened-end ends mark (suc more) e = ap (λ (b : Bool). cond b (suc (opened_from ends (suc mark) more)) 0) e
