-- What was found of files, and what stands above it.
use Rattle.std.proofs.Common.{◌≡◌, ◌<◌, ◌≤◌, ℕ, suc, pred, ◌+◌, ◌*◌, ◌-◌, Bool, true, false, not, ◌&&◌, cond, eqb, leb, List, length, take, drop, Ok, sym, ◌∙◌, ap, subst, arith, inl, inr}
use Rattle.std.proofs.lemmas.Bool.{true≢false, le-leb, lt-ltb, ne_eqb}
use Rattle.std.proofs.lemmas.List.{take_all}
use Rattle.xod_volume.specs.Files.{Files, bytes_of}
use Rattle.xod_log.specs.Ends.{IsUsed, body_of, ends_of, gate_at}
use Rattle.xod_log.specs.Standing.{last_file}
use Rattle.xod_recover.specs.declared.newest.Found.{Found}
use Rattle.xod_recover.specs.Check.{Newest, check}
use Rattle.xod_recover.specs.Found.{EndsWithRoot, HasRoot}
use Rattle.xod_recover.specs.Images.{UnusedFrom}
use Rattle.xod_recover.specs.Opened.{is_used, open_count, opened_from, opens}
use Rattle.xod_recover.specs.Rooted.{SpellsRoot}
use Rattle.xod_recover.specs.Tails.{Covers}
use Rattle.xod_recover.proofs.Greatest.{greatest-above, greatest-none, used_by_count}
use Rattle.xod_recover.proofs.Newests.{check-newest}

-- nothing is used where no mark was found
pub fresh-from : (files : Files) (newest : Newest) → check files ≡ Ok newest → newest.marks ≡ 0 → UnusedFrom 0 files
fresh-from files newest e none = elim (check-newest files newest e) [
  | inl is ↦ greatest-none files is.0
  | inr is ↦ absurd (omega (arith, none, is.some))
]

pub above-from : (files : Files) (newest : Newest) → check files ≡ Ok newest → UnusedFrom (suc newest.file) files
above-from files newest e = elim (check-newest files newest e) [
  | inl is ↦ λ other gt low. greatest-none files is.0 other (omega arith) low
  | inr is ↦ greatest-above files newest.file is.used
]

-- an open first mark is counted
opened-some : (ends : List ℕ) (n : ℕ) → length ends ≡ suc n → opens ends 0 ≡ true → 0 < open_count ends
unfolding open_count
opened-some ends n size e =
    let count : opened_from ends 0 (length ends) ≡ suc (opened_from ends 1 n) = ap (opened_from ends 0) size ∙ ap (λ (b : Bool). cond b (suc (opened_from ends 1 n)) 0) e in
    omega (arith, count)

pub used-open : (files : Files) (file : ℕ) → IsUsed file files → is_used files file ≡ true
used-open files file used =
    let ends = bytes_of files (ends_of file) in
    let gate : eqb (gate_at ends 0) 0 ≡ false = ne_eqb (gate_at ends 0) 0 (used.opened.gates 0 (omega arith)) in
    let long : leb (13 * (0 + 2)) (length ends) ≡ true = le-leb (13 * (0 + 2)) (length ends) used.opened.followed in
    let first : opens ends 0 ≡ true = ap (λ (b : Bool). b && not (eqb (gate_at ends 0) 0)) long ∙ ap (λ (b : Bool). not b) gate in
    let followed = used.opened.followed in
    let size : length ends ≡ suc (pred (length ends)) = omega (arith, followed) in
    used_by_count files file used.has_body used.has_ends ∙ lt-ltb 0 (open_count ends) (opened-some ends (pred (length ends)) size first)

pub not-used : (files : Files) → UnusedFrom 0 files → (file : ℕ) → file ≤ last_file → IsUsed file files → ⊥
not-used files unused file low used = true≢false (sym (used-open files file used) ∙ unused file (omega arith) low)

-- the root that was found ends the body once that was cut
pub ends-root : (found : Found) (old new : Files) → HasRoot found old → Covers (bytes_of old (body_of found.file)) (bytes_of new (body_of found.file)) found.end → length (bytes_of new (body_of found.file)) ≡ found.end → EndsWithRoot found new
ends-root found old new has covers size =
    let body = bytes_of new (body_of found.file) in
    let whole : take found.end (bytes_of old (body_of found.file)) ≡ body = sym covers.1 ∙ take_all found.end body (omega (arith, size)) in
    record {
      long = size;
      spelled = subst (λ (l : List ℕ). SpellsRoot found.commit found.roots (drop (found.end - found.back) l)) whole has.spelled;
    }
