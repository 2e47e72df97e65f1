-- The check by what was found of the file that is used last.
use Rattle.std.proofs.Common.{◌≡◌, ℕ, pred, List, Option, Some, None, Result, Ok, sym, ap, ◌∙◌, subst}
use Rattle.xod_base.specs.declared.causes.Place.{Place}
use Rattle.xod_volume.specs.Files.{Files, bytes_of}
use Rattle.xod_log.specs.Ends.{end_at, back_at, ends_of, numbers, numbers_at}
use Rattle.xod_recover.specs.declared.ends.Used.{Used}
use Rattle.xod_recover.specs.Check.{Newest, no_newest, check, check_used, check_body}
use Rattle.xod_recover.specs.Opened.{open_count, greatest_used}
use Rattle.xod_recover.specs.Uses.{Finds}
use Rattle.xod_recover.proofs.Newests.{body-numbers}

pub check-none : (files : Files) → Finds files (greatest_used files) None → check files ≡ Ok no_newest
unfolding check
check-none files finds = ap (check_used files) (sym finds.file_is)

-- the check by the ends of a file
abbrev by_ends : Files → ℕ → List ℕ → Result Newest Place
by_ends files file ends = check_body files file (pred (open_count ends)) (end_at ends (pred (open_count ends))) (back_at ends (pred (open_count ends)))

pub check-marked : (files : Files) (used : Used) (file mark end back : ℕ) → Finds files (greatest_used files) (Some used) → file ≡ used.file → mark ≡ pred (open_count used.ends) → end ≡ end_at used.ends (pred (open_count used.ends)) → back ≡ back_at used.ends (pred (open_count used.ends))
    → check files ≡ check_body files file mark end back
unfolding check
check-marked files used file mark end back finds file_is mark_is end_is back_is =
    let last = pred (open_count used.ends) in
    ap (check_used files) (sym finds.file_is)
    ∙ ap (by_ends files used.file) (sym finds.ends_are)
    ∙ sym (ap (λ (f : ℕ). check_body files f mark end back) file_is
    ∙ ap (λ (m : ℕ). check_body files used.file m end back) mark_is
    ∙ ap (λ (n : ℕ). check_body files used.file last n back) end_is
    ∙ ap (check_body files used.file last (end_at used.ends last)) back_is)

-- the same over files that stayed as they were
pub check-found : (before now later : Files) (found : Option Used) (used : Used) (file mark end back : ℕ) → now ≡ before → later ≡ now → Finds now (greatest_used now) found → found ≡ Some used
    → file ≡ used.file → mark ≡ pred (open_count used.ends) → end ≡ end_at used.ends (pred (open_count used.ends)) → back ≡ back_at used.ends (pred (open_count used.ends))
    → check before ≡ check_body later file mark end back
check-found before now later found used file mark end back same stays finds is file_is mark_is end_is back_is =
    ap check (sym same)
    ∙ check-marked now used file mark end back (subst (λ (o : Option Used). Finds now (greatest_used now) o) is finds) file_is mark_is end_is back_is
    ∙ ap (λ (f : Files). check_body f file mark end back) (sym stays)

-- the bytes of the mark are those of the numbers that were found
pub found-spelled : (before now later : Files) (found : Option Used) (used : Used) (file mark end back : ℕ) (newest : Newest) → now ≡ before → Finds now (greatest_used now) found → found ≡ Some used
    → file ≡ used.file → mark ≡ pred (open_count used.ends) → numbers_at used.ends (pred (open_count used.ends)) ≡ numbers end back → check_body later file mark end back ≡ Ok newest
    → numbers_at (bytes_of before (ends_of newest.file)) (pred newest.marks) ≡ numbers newest.end newest.back
found-spelled before now later found used file mark end back newest same finds is file_is mark_is spelled e =
    let here = subst (λ (o : Option Used). Finds now (greatest_used now) o) is finds in
    let n = body-numbers later newest file mark end back e in
    ap (λ (f : ℕ). numbers_at (bytes_of before (ends_of f)) (pred newest.marks)) (n.0 ∙ file_is)
    ∙ ap (λ (m : ℕ). numbers_at (bytes_of before (ends_of used.file)) (pred m)) n.1
    ∙ ap (λ (f : Files). numbers_at (bytes_of f (ends_of used.file)) mark) (sym same)
    ∙ ap (λ (l : List ℕ). numbers_at l mark) (sym here.ends_are)
    ∙ ap (numbers_at used.ends) mark_is
    ∙ spelled
    ∙ sym (ap (λ (m : ℕ). numbers m newest.back) n.2 ∙ ap (numbers end) n.3)
