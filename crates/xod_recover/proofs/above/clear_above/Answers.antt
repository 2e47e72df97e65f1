use Rattle.std.proofs.Common.{◌≡◌, ℕ, [], take, Some, is_some, IsTrue, sym, ◌∙◌, ap, arith}
use mathlib.Core.Logic.{◌≢◌}
use Rattle.std.specs.FinMap.{get, insert}
use Rattle.xod_volume.specs.Files.{Files, bytes_of}
use Rattle.xod_volume.specs.Crash.{OnFile, OnBytes, Shortened, Passes}
use Rattle.xod_log.specs.Ends.{body_of, ends_of}
use Rattle.xod_log.specs.Standing.{IsDurablePair}
use Rattle.xod_log.proofs.CallerLemmas.{files_apart, put_there, other_file}
use Rattle.xod_recover.specs.Found.{newest_of}
use Rattle.xod_recover.specs.Images.{Stores}
use Rattle.xod_recover.specs.Keeping.{KeepsFound}
use Rattle.xod_recover.specs.Stores.{stored_in}
use Rattle.xod_recover.specs.Tails.{AllNearBut}
use Rattle.xod_recover.proofs.Clearing.{ends_emptied, run_both, near_both, as_found_both, settled_but, settled_cleared, found_still, emptied_reads, keeps_one, keeps_both}
use Rattle.xod_recover.proofs.CutReads.{still_durable}
use Rattle.xod_recover.proofs.above.clear_above.Given.{Over}
use Rattle.xod_recover.proofs.above.clear_above.Goals.{After-cut_synced, In_ok-cut_synced, After-cut_synced-2, In_ok-cut_synced-2}
use Rattle.xod_recover.proofs.above.clear_above.Goals as goal

-- ---- the place of a call leads back to that of the one before it

abbrev cut_first : (g : Over) → In_ok-cut_synced g → After-cut_synced g
cut_first g c = c.before.before

abbrev first_done : (g : Over) → After-cut_synced-2 g → In_ok-cut_synced g
first_done g c = c.before.before

abbrev cut_second : (g : Over) → In_ok-cut_synced-2 g → After-cut_synced-2 g
cut_second g c = c.before.before

-- ---- what each call says

first-passes : (g : Over) (c : After-cut_synced g) → IsTrue (g.V.Volume.tells c.args.volume.now)
    → Passes (g.V.Volume.moment c.args.volume.now) (g.V.Volume.moment c.cut_synced.new.volume) (g.V.Volume.may_leave c.args.volume.now) (g.V.Volume.may_leave c.cut_synced.new.volume) (OnFile (ends_of c.args.other) (OnBytes (Shortened 0)))
first-passes g c told = rw c.ends_file-ends.ensures at c.cut_synced.ensures.crash told

first-is : (g : Over) (c : In_ok-cut_synced g) → IsTrue (g.V.Volume.tells c.args.volume.now)
    → g.V.Volume.files c.cut_synced.new.volume ≡ insert (g.V.Volume.files c.args.volume.now) (ends_of c.args.other) (take 0 (bytes_of (g.V.Volume.files c.args.volume.now) (ends_of c.args.other)))
first-is g c told = rw c.ends_file-ends.ensures at c.in_ok-cut_synced.ensures.shortened told

first-durable : (g : Over) (c : In_ok-cut_synced g) → IsTrue (g.V.Volume.tells c.args.volume.now) → (left : Files) → g.V.Volume.may_leave c.cut_synced.new.volume (g.V.Volume.moment c.cut_synced.new.volume) left → get left (ends_of c.args.other) ≡ Some []
first-durable g c told left i =
    let durable : get left (ends_of c.args.other) ≡ get (g.V.Volume.files c.cut_synced.new.volume) (ends_of c.args.other) = rw c.ends_file-ends.ensures at c.in_ok-cut_synced.ensures.durable told left i in
    durable ∙ put_there _ _ (ends_of c.args.other) _ (first-is g c told)

second-passes : (g : Over) (c : After-cut_synced-2 g) → IsTrue (g.V.Volume.tells c.args.volume.now)
    → Passes (g.V.Volume.moment c.cut_synced.new.volume) (g.V.Volume.moment c.cut_synced-2.new.volume) (g.V.Volume.may_leave c.cut_synced.new.volume) (g.V.Volume.may_leave c.cut_synced-2.new.volume) (OnFile (body_of c.args.other) (OnBytes (Shortened 0)))
second-passes g c told =
    let told1 : IsTrue (g.V.Volume.tells c.cut_synced.new.volume) = rw c.cut_synced.ensures.stays.tells told in
    rw c.body_file-body.ensures at c.cut_synced-2.ensures.crash told1

second-is : (g : Over) (c : In_ok-cut_synced-2 g) → IsTrue (g.V.Volume.tells c.args.volume.now)
    → g.V.Volume.files c.cut_synced-2.new.volume ≡ insert (g.V.Volume.files c.cut_synced.new.volume) (body_of c.args.other) (take 0 (bytes_of (g.V.Volume.files c.cut_synced.new.volume) (body_of c.args.other)))
second-is g c told =
    let told1 : IsTrue (g.V.Volume.tells c.cut_synced.new.volume) = rw c.cut_synced.ensures.stays.tells told in
    rw c.body_file-body.ensures at c.in_ok-cut_synced-2.ensures.shortened told1

second-durable : (g : Over) (c : In_ok-cut_synced-2 g) → IsTrue (g.V.Volume.tells c.args.volume.now) → (left : Files) → g.V.Volume.may_leave c.cut_synced-2.new.volume (g.V.Volume.moment c.cut_synced-2.new.volume) left
    → get left (body_of c.args.other) ≡ get (g.V.Volume.files c.cut_synced-2.new.volume) (body_of c.args.other)
second-durable g c told =
    let told1 : IsTrue (g.V.Volume.tells c.cut_synced.new.volume) = rw c.cut_synced.ensures.stays.tells told in
    rw c.body_file-body.ensures at c.in_ok-cut_synced-2.ensures.durable told1

-- ---- both calls

run : (g : Over) (c : After-cut_synced-2 g) (told : IsTrue (g.V.Volume.tells c.args.volume.now)) (near : AllNearBut (newest_of c.args.found.now) c.args.other (g.V.Volume.files c.args.volume.now) (g.V.Volume.may_leave c.args.volume.now (g.V.Volume.moment c.args.volume.now)))
    → Passes (g.V.Volume.moment c.args.volume.now) (g.V.Volume.moment c.cut_synced-2.new.volume) (g.V.Volume.may_leave c.args.volume.now) (g.V.Volume.may_leave c.cut_synced-2.new.volume) (Stores (stored_in (g.V.Volume.files c.args.volume.now)))
run g c told near =
    let before = first_done g c in
    (run_both (newest_of c.args.found.now) _ (c.requires.was_found told) c.args.other c.requires.above _ _ near _ _ (first-passes g (cut_first g before) told) (first-durable g before told) _ _ (second-passes g c told)).passes

reads : (g : Over) (c : In_ok-cut_synced-2 g) → IsTrue (g.V.Volume.tells c.args.volume.now) → (k : ℕ) → k ≢ body_of c.args.other → k ≢ ends_of c.args.other → get (g.V.Volume.files c.cut_synced-2.new.volume) k ≡ get (g.V.Volume.files c.args.volume.now) k
reads g c told = emptied_reads _ _ _ c.args.other _ (first-is g (first_done g (cut_second g c)) told) (second-is g c told)

ends-empty : (g : Over) (c : In_ok-cut_synced-2 g) → IsTrue (g.V.Volume.tells c.args.volume.now) → get (g.V.Volume.files c.cut_synced-2.new.volume) (ends_of c.args.other) ≡ Some []
ends-empty g c told =
    other_file _ _ (body_of c.args.other) (ends_of c.args.other) _ (λ e. files_apart c.args.other (sym e)) (second-is g c told)
    ∙ put_there _ _ (ends_of c.args.other) _ (first-is g (first_done g (cut_second g c)) told)

pair : (g : Over) (c : In_ok-cut_synced-2 g) → IsTrue (g.V.Volume.tells c.args.volume.now) → IsDurablePair c.args.other (g.V.Volume.files c.cut_synced-2.new.volume) (g.V.Volume.may_leave c.cut_synced-2.new.volume (g.V.Volume.moment c.cut_synced-2.new.volume))
pair g c told =
    let first = first_done g (cut_second g c) in
    record {
      body = second-durable g c told;
      ends = λ left i.
          still_durable _ _ _ _ (body_of c.args.other) (ends_of c.args.other) (OnBytes (Shortened 0)) (Some []) (λ e. files_apart c.args.other (sym e)) (second-passes g (cut_second g c) told) (first-durable g first told) left i
          ∙ sym (ends-empty g c told);
    }

-- ---- the answers

pub cut_synced-requires-2-clause-exists : goal.cut_synced-requires-2-clause-exists
cut_synced-requires-2-clause-exists g c told1 =
    let told : IsTrue (g.V.Volume.tells c.args.volume.now) = rw c.cut_synced.ensures.stays.tells at told1 in
    rw c.body_file-body.ensures (ap is_some (other_file _ _ (ends_of c.args.other) (body_of c.args.other) _ (files_apart c.args.other) (first-is g (goal.at.cut_synced-requires-2-clause-exists g c).In_ok-cut_synced told)) ∙ c.requires.has_body told)

pub returns-in_err-cut_synced-clause-crash : goal.returns-in_err-cut_synced-clause-crash
returns-in_err-cut_synced-clause-crash g c told near =
    (ends_emptied (newest_of c.args.found.now) _ (c.requires.was_found told) c.args.other c.requires.above _ _ near _ _ (first-passes g (goal.at.returns-in_err-cut_synced-clause-crash g c).After-cut_synced told)).passes

pub returns-in_err-cut_synced-2-clause-crash : goal.returns-in_err-cut_synced-2-clause-crash
returns-in_err-cut_synced-2-clause-crash g c told near = run g (goal.at.returns-in_err-cut_synced-2-clause-crash g c).After-cut_synced-2 told near

pub returns-clause-crash : goal.returns-clause-crash
returns-clause-crash g c told near = run g (goal.at.returns-clause-crash g c).After-cut_synced-2 told near

pub returns-clause-empty : goal.returns-clause-empty
returns-clause-empty g c told = put_there _ _ (body_of c.args.other) _ (second-is g (goal.at.returns-clause-empty g c).In_ok-cut_synced-2 told)

pub returns-clause-empty_ends : goal.returns-clause-empty_ends
returns-clause-empty_ends g c told = ends-empty g (goal.at.returns-clause-empty_ends g c).In_ok-cut_synced-2 told

pub returns-clause-others : goal.returns-clause-others
returns-clause-others g c told = reads g (goal.at.returns-clause-others g c).In_ok-cut_synced-2 told

pub returns-clause-still_found : goal.returns-clause-still_found
returns-clause-still_found g c told =
    let done = (goal.at.returns-clause-still_found g c).In_ok-cut_synced-2 in
    found_still (newest_of c.args.found.now) _ (c.requires.was_found told) c.args.other c.requires.above _ (reads g done told) (ends-empty g done told)

pub returns-clause-near : goal.returns-clause-near
returns-clause-near g c told near =
    let done = (goal.at.returns-clause-near g c).In_ok-cut_synced-2 in
    let second = cut_second g done in
    let before = first_done g second in
    near_both (newest_of c.args.found.now) _ (c.requires.was_found told) c.args.other c.requires.above _ _ near _ _ (first-passes g (cut_first g before) told) (first-durable g before told) _ _ (second-passes g second told) _ (reads g done told)

pub returns-clause-settled : goal.returns-clause-settled
returns-clause-settled g c told settled =
    let done = (goal.at.returns-clause-settled g c).In_ok-cut_synced-2 in
    let second = cut_second g done in
    let before = first_done g second in
    let told1 : IsTrue (g.V.Volume.tells c.cut_synced.new.volume) = rw c.cut_synced.ensures.stays.tells told in
    let near = settled_but (newest_of c.args.found.now) _ (c.requires.was_found told) c.args.other c.requires.above _ settled in
    settled_cleared (newest_of c.args.found.now) _ (c.requires.was_found told) c.args.other c.requires.above _ (g.V.Volume.may_leave c.args.volume.now) near _ _ (first-passes g (cut_first g before) told) (first-durable g before told) _ _ (second-passes g second told) _ (reads g done told)
    settled (c.cut_synced-2.ensures.kept told1) (pair g done told)

-- ---- the files beside the pair, where a call was refused

first-others : (g : Over) (c : After-cut_synced g) → IsTrue (g.V.Volume.tells c.args.volume.now) → (k : ℕ) → k ≢ ends_of c.args.other → get (g.V.Volume.files c.cut_synced.new.volume) k ≡ get (g.V.Volume.files c.args.volume.now) k
first-others g c told = rw c.ends_file-ends.ensures at c.cut_synced.ensures.others told

second-others : (g : Over) (c : After-cut_synced-2 g) → IsTrue (g.V.Volume.tells c.args.volume.now) → (k : ℕ) → k ≢ body_of c.args.other → get (g.V.Volume.files c.cut_synced-2.new.volume) k ≡ get (g.V.Volume.files c.cut_synced.new.volume) k
second-others g c told =
    let told1 : IsTrue (g.V.Volume.tells c.cut_synced.new.volume) = rw c.cut_synced.ensures.stays.tells told in
    rw c.body_file-body.ensures at c.cut_synced-2.ensures.others told1

pub returns-in_err-cut_synced-clause-others : goal.returns-in_err-cut_synced-clause-others
returns-in_err-cut_synced-clause-others g c told k not_body not_ends = first-others g (goal.at.returns-in_err-cut_synced-clause-others g c).After-cut_synced told k not_ends

pub returns-in_err-cut_synced-2-clause-others : goal.returns-in_err-cut_synced-2-clause-others
returns-in_err-cut_synced-2-clause-others g c told k not_body not_ends =
    let second = (goal.at.returns-in_err-cut_synced-2-clause-others g c).After-cut_synced-2 in
    second-others g second told k not_body ∙ first-others g (cut_first g (first_done g second)) told k not_ends

-- ---- what was found is kept

first-on : (g : Over) (c : After-cut_synced g) → IsTrue (g.V.Volume.tells c.args.volume.now) → OnFile (ends_of c.args.other) (OnBytes (Shortened 0)) (g.V.Volume.files c.args.volume.now) (g.V.Volume.files c.cut_synced.new.volume)
first-on g c told = rw c.ends_file-ends.ensures at c.cut_synced.ensures.reads told

second-on : (g : Over) (c : After-cut_synced-2 g) → IsTrue (g.V.Volume.tells c.args.volume.now) → OnFile (body_of c.args.other) (OnBytes (Shortened 0)) (g.V.Volume.files c.cut_synced.new.volume) (g.V.Volume.files c.cut_synced-2.new.volume)
second-on g c told =
    let told1 : IsTrue (g.V.Volume.tells c.cut_synced.new.volume) = rw c.cut_synced.ensures.stays.tells told in
    rw c.body_file-body.ensures at c.cut_synced-2.ensures.reads told1

both-kept : (g : Over) (c : After-cut_synced-2 g) → IsTrue (g.V.Volume.tells c.args.volume.now) → KeepsFound (newest_of c.args.found.now) (g.V.Volume.files c.args.volume.now) (g.V.Volume.files c.cut_synced-2.new.volume)
both-kept g c told = keeps_both (newest_of c.args.found.now) _ (c.requires.was_found told) c.args.other c.requires.above (omega (arith, c.ranges.other)) _ _ (first-on g (cut_first g (first_done g c)) told) (second-on g c told)

pub returns-in_err-cut_synced-clause-keeps : goal.returns-in_err-cut_synced-clause-keeps
returns-in_err-cut_synced-clause-keeps g c told =
    keeps_one (newest_of c.args.found.now) _ (c.requires.was_found told) c.args.other c.requires.above (omega (arith, c.ranges.other)) _ (first-on g (goal.at.returns-in_err-cut_synced-clause-keeps g c).After-cut_synced told)

pub returns-in_err-cut_synced-2-clause-keeps : goal.returns-in_err-cut_synced-2-clause-keeps
returns-in_err-cut_synced-2-clause-keeps g c told = both-kept g (goal.at.returns-in_err-cut_synced-2-clause-keeps g c).After-cut_synced-2 told

pub returns-clause-keeps : goal.returns-clause-keeps
returns-clause-keeps g c told = both-kept g (goal.at.returns-clause-keeps g c).After-cut_synced-2 told

pub returns-clause-as_found : goal.returns-clause-as_found
returns-clause-as_found g c told near =
    let done = (goal.at.returns-clause-as_found g c).In_ok-cut_synced-2 in
    let second = cut_second g done in
    let before = first_done g second in
    as_found_both (newest_of c.args.found.now) _ (c.requires.was_found told) c.args.other c.requires.above _ _ near _ _ (first-passes g (cut_first g before) told) (first-durable g before told) _ _ (second-passes g second told) _ (reads g done told)
