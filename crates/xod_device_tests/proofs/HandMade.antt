-- A pair of log files that is made call by call: body and ends are created, a closed mark is appended, and both are synced.
use Rattle.std.proofs.Common.{◌≡◌, ℕ, [], ◌++◌, Some, IsNone, IsSome, refl, sym, subst, ◌∙◌, ap, arith}
use mathlib.Core.Logic.{◌≢◌}
use Rattle.std.specs.Ordering.{nat_cmp}
use Rattle.std.specs.FinMap.{get, insert, get-empty}
use Rattle.xod_volume.specs.Files.{Files, Content, no_files, bytes_of}
use Rattle.xod_volume.specs.Crash.{Passes, IsSame}
use Rattle.xod_volume.proofs.CallerLemmas.{get_same}
use Rattle.xod_log.specs.Ends.{body_of, ends_of}
use Rattle.xod_log.specs.Standing.{Stands, empty_log}
use Rattle.xod_log.specs.Calls.{IsEmptyPair, no_mark}
use Rattle.xod_log.proofs.CallerLemmas.{files_apart, appended_file, other_file, empty_stands}

-- where there is no file this one is absent, and beside one that was created another is
pub absent : (files : Files) (file : ℕ) → files ≡ no_files → IsNone (get files file)
absent files file none = subst (λ (c : Content). IsNone c) (sym (ap (λ (f : Files). get f file) none ∙ get-empty nat_cmp file)) refl

pub absent_beside : (f0 f1 : Files) (file other : ℕ) → f0 ≡ no_files → other ≢ file → f1 ≡ insert f0 file [] → IsNone (get f1 other)
absent_beside f0 f1 file other none apart is = subst (λ (c : Content). IsNone c) (sym (other_file f0 f1 file other [] apart is)) (absent f0 other none)

-- the body is still there
pub body_there : (file : ℕ) (f3 f4 : Files) → IsEmptyPair file f3 → f4 ≡ f3 → IsSome (get f4 (body_of file))
body_there file f3 f4 made same = subst (λ (c : Content). IsSome c) (sym (ap (λ (f : Files). get f (body_of file)) same ∙ made.body)) refl

-- what reads give after the append
pub pair_made : (file : ℕ) (f0 f1 f2 f3 : Files) → f1 ≡ insert f0 (body_of file) [] → f2 ≡ insert f1 (ends_of file) []
    → f3 ≡ insert f2 (ends_of file) (bytes_of f2 (ends_of file) ++ no_mark) → IsEmptyPair file f3
pair_made file f0 f1 f2 f3 body ends mark = record {
  body =
      other_file f2 f3 (ends_of file) (body_of file) (bytes_of f2 (ends_of file) ++ no_mark) (files_apart file) mark
      ∙ other_file f1 f2 (ends_of file) (body_of file) [] (files_apart file) ends
      ∙ ap (λ (f : Files). get f (body_of file)) body
      ∙ get_same f0 (body_of file) (Some []);
  ends = appended_file f2 f3 (ends_of file) no_mark [] (ap (λ (f : Files). get f (ends_of file)) ends ∙ get_same f1 (ends_of file) (Some [])) mark;
}

-- A log without blocks stands on it: each image after the sync of the body comes of one after that of the ends.
pub stands_made : (file target : ℕ) (f3 f4 f5 : Files) (t4 t5 : ℕ) (i4 i5 : ℕ → Files → Type 0) → IsEmptyPair file f3 → f4 ≡ f3 → f5 ≡ f4
    → ((left : Files) → i4 t4 left → get left (ends_of file) ≡ get f3 (ends_of file)) → Passes t4 t5 i4 i5 IsSame
    → ((left : Files) → i5 t5 left → get left (body_of file) ≡ get f4 (body_of file)) → Stands (empty_log file target) f5 (i5 t5)
stands_made file target f3 f4 f5 t4 t5 i4 i5 made four five ends passes body =
    let now : IsEmptyPair file f5 = record {
      body = ap (λ (f : Files). get f (body_of file)) (five ∙ four) ∙ made.body;
      ends = ap (λ (f : Files). get f (ends_of file)) (five ∙ four) ∙ made.ends;
    } in
    empty_stands file target f5 (i5 t5) now (λ left i.
    let from = passes.each t5 left passes.later (omega arith) i in
    record {
      body = body left i ∙ ap (λ (f : Files). get f (body_of file)) four ∙ made.body;
      ends = ap (λ (f : Files). get f (ends_of file)) from.2 ∙ ends from.0 from.1 ∙ made.ends;
    })
