use Rattle.std.proofs.Common.{◌≡◌, ◌≤◌, ◌+◌, ◌*◌, ℕ, length, take, Some, is_some, IsTrue, sym, ◌∙◌, ap, subst, arith}
use mathlib.Core.Logic.{◌≢◌}
use Rattle.std.specs.FinMap.{get, insert}
use Rattle.xod_volume.specs.Files.{Files, Content, bytes_in, bytes_of, overwritten}
use Rattle.xod_volume.specs.Crash.{OnFile, OnBytes, Torn, Shortened, Passes}
use Rattle.xod_log.specs.Calls.{no_mark}
use Rattle.xod_log.specs.Ends.{body_of, ends_of}
use Rattle.xod_log.specs.Runs.{Run}
use Rattle.xod_log.specs.Standing.{AsOpened}
use Rattle.xod_log.proofs.CallerLemmas.{files_apart, put_there, other_file}
use Rattle.xod_recover.specs.Found.{newest_of}
use Rattle.xod_recover.specs.Images.{Stores}
use Rattle.xod_recover.specs.Keeping.{KeepsFound}
use Rattle.xod_recover.specs.Stores.{stored_in}
use Rattle.xod_recover.specs.Tails.{AllNear}
use Rattle.xod_recover.proofs.CutImages.{P, On, kept_within, file_long, cut_size, ends_cut, run_two, run_three, tail_stored}
use Rattle.xod_recover.proofs.CutKeeps.{first_keeps, second_keeps, third_keeps}
use Rattle.xod_recover.proofs.CutReads.{Reads, after_ends, after_body, reads_are, still_found, opened_as, settled_near, settled_again, still_durable}
use Rattle.xod_recover.proofs.tail.cut_tail.Given.{Over}
use Rattle.xod_recover.proofs.tail.cut_tail.Goals.{After-cut_synced, In_ok-cut_synced, After-cut_synced-2, In_ok-cut_synced-2, After-write_synced, In_ok-write_synced}
use Rattle.xod_recover.proofs.tail.cut_tail.Goals as goal

-- ---- the place of a call leads back to that of the one before it

abbrev cut_first : (g : Over) → In_ok-cut_synced g → After-cut_synced g
cut_first g c = c.before.before

abbrev first_done : (g : Over) → After-cut_synced-2 g → In_ok-cut_synced g
first_done g c = c.before.before

abbrev cut_second : (g : Over) → In_ok-cut_synced-2 g → After-cut_synced-2 g
cut_second g c = c.before.before

abbrev second_done : (g : Over) → After-write_synced g → In_ok-cut_synced-2 g
second_done g c = c.before.before.before.before

abbrev wrote : (g : Over) → In_ok-write_synced g → After-write_synced g
wrote g c = c.before.before

-- ---- what each call says

first-passes : (g : Over) (c : After-cut_synced g) → IsTrue (g.V.Volume.tells c.args.volume.now)
    → Passes (g.V.Volume.moment c.args.volume.now) (g.V.Volume.moment c.cut_synced.new.volume) (g.V.Volume.may_leave c.args.volume.now) (g.V.Volume.may_leave c.cut_synced.new.volume)
    (OnFile (ends_of c.args.found.now.file) (OnBytes (Shortened (13 * (c.args.found.now.marks + 1)))))
first-passes g c told = rw c.ends_file-ends.ensures at c.cut_synced.ensures.crash told

first-is : (g : Over) (c : In_ok-cut_synced g) → IsTrue (g.V.Volume.tells c.args.volume.now)
    → g.V.Volume.files c.cut_synced.new.volume ≡ insert (g.V.Volume.files c.args.volume.now) (ends_of c.args.found.now.file) (take (13 * (c.args.found.now.marks + 1)) (bytes_of (g.V.Volume.files c.args.volume.now) (ends_of c.args.found.now.file)))
first-is g c told = rw c.ends_file-ends.ensures at c.in_ok-cut_synced.ensures.shortened told

first-durable : (g : Over) (c : In_ok-cut_synced g) → IsTrue (g.V.Volume.tells c.args.volume.now) → (left : Files) → g.V.Volume.may_leave c.cut_synced.new.volume (g.V.Volume.moment c.cut_synced.new.volume) left
    → get left (ends_of c.args.found.now.file) ≡ Some (take (13 * (c.args.found.now.marks + 1)) (bytes_of (g.V.Volume.files c.args.volume.now) (ends_of c.args.found.now.file)))
first-durable g c told left i =
    let durable : get left (ends_of c.args.found.now.file) ≡ get (g.V.Volume.files c.cut_synced.new.volume) (ends_of c.args.found.now.file) = rw c.ends_file-ends.ensures at c.in_ok-cut_synced.ensures.durable told left i in
    durable ∙ put_there _ _ (ends_of c.args.found.now.file) _ (first-is g c told)

second-passes : (g : Over) (c : After-cut_synced-2 g) → IsTrue (g.V.Volume.tells c.args.volume.now)
    → Passes (g.V.Volume.moment c.cut_synced.new.volume) (g.V.Volume.moment c.cut_synced-2.new.volume) (g.V.Volume.may_leave c.cut_synced.new.volume) (g.V.Volume.may_leave c.cut_synced-2.new.volume)
    (OnFile (body_of c.args.found.now.file) (OnBytes (Shortened c.args.found.now.end)))
second-passes g c told =
    let told1 : IsTrue (g.V.Volume.tells c.cut_synced.new.volume) = rw c.cut_synced.ensures.stays.tells told in
    rw c.body_file-body.ensures at c.cut_synced-2.ensures.crash told1

second-is : (g : Over) (c : In_ok-cut_synced-2 g) → IsTrue (g.V.Volume.tells c.args.volume.now)
    → g.V.Volume.files c.cut_synced-2.new.volume ≡ insert (g.V.Volume.files c.cut_synced.new.volume) (body_of c.args.found.now.file) (take c.args.found.now.end (bytes_of (g.V.Volume.files c.cut_synced.new.volume) (body_of c.args.found.now.file)))
second-is g c told =
    let told1 : IsTrue (g.V.Volume.tells c.cut_synced.new.volume) = rw c.cut_synced.ensures.stays.tells told in
    rw c.body_file-body.ensures at c.in_ok-cut_synced-2.ensures.shortened told1

third-passes : (g : Over) (c : After-write_synced g) → IsTrue (g.V.Volume.tells c.args.volume.now)
    → Passes (g.V.Volume.moment c.cut_synced-2.new.volume) (g.V.Volume.moment c.write_synced.new.volume) (g.V.Volume.may_leave c.cut_synced-2.new.volume) (g.V.Volume.may_leave c.write_synced.new.volume)
    (OnFile (ends_of c.args.found.now.file) (OnBytes (Torn (13 * c.args.found.now.marks) 13)))
third-passes g c told =
    let told1 : IsTrue (g.V.Volume.tells c.cut_synced.new.volume) = rw c.cut_synced.ensures.stays.tells told in
    let told2 : IsTrue (g.V.Volume.tells c.cut_synced-2.new.volume) = rw c.cut_synced-2.ensures.stays.tells told1 in
    rw c.ends_file-ends.ensures at c.write_synced.ensures.crash told2

third-is : (g : Over) (c : In_ok-write_synced g) → IsTrue (g.V.Volume.tells c.args.volume.now)
    → g.V.Volume.files c.write_synced.new.volume ≡ insert (g.V.Volume.files c.cut_synced-2.new.volume) (ends_of c.args.found.now.file) (overwritten (bytes_of (g.V.Volume.files c.cut_synced-2.new.volume) (ends_of c.args.found.now.file)) (13 * c.args.found.now.marks) no_mark)
third-is g c told =
    let told1 : IsTrue (g.V.Volume.tells c.cut_synced.new.volume) = rw c.cut_synced.ensures.stays.tells told in
    let told2 : IsTrue (g.V.Volume.tells c.cut_synced-2.new.volume) = rw c.cut_synced-2.ensures.stays.tells told1 in
    rw c.ends_file-ends.ensures at c.in_ok-write_synced.ensures.written told2

-- ---- the runs of calls

run-first : (g : Over) (c : After-cut_synced g) (told : IsTrue (g.V.Volume.tells c.args.volume.now)) → AllNear (newest_of c.args.found.now) (g.V.Volume.files c.args.volume.now) (g.V.Volume.may_leave c.args.volume.now (g.V.Volume.moment c.args.volume.now))
    → Passes (g.V.Volume.moment c.args.volume.now) (g.V.Volume.moment c.cut_synced.new.volume) (g.V.Volume.may_leave c.args.volume.now) (g.V.Volume.may_leave c.cut_synced.new.volume) (Stores (stored_in (g.V.Volume.files c.args.volume.now)))
run-first g c told near = (ends_cut (newest_of c.args.found.now) _ (c.requires.was_found told) (c.requires.was_found told).fits _ _ near _ _ (first-passes g c told)).passes

run-second : (g : Over) (c : After-cut_synced-2 g) (told : IsTrue (g.V.Volume.tells c.args.volume.now)) (near : AllNear (newest_of c.args.found.now) (g.V.Volume.files c.args.volume.now) (g.V.Volume.may_leave c.args.volume.now (g.V.Volume.moment c.args.volume.now)))
    → Run (g.V.Volume.moment c.args.volume.now) (g.V.Volume.moment c.cut_synced-2.new.volume) (g.V.Volume.may_leave c.args.volume.now) (g.V.Volume.may_leave c.cut_synced-2.new.volume)
    (P (newest_of c.args.found.now) (g.V.Volume.files c.args.volume.now) (c.requires.was_found told) (c.requires.was_found told).fits (g.V.Volume.moment c.args.volume.now) (g.V.Volume.may_leave c.args.volume.now) near)
    (On (newest_of c.args.found.now) (g.V.Volume.files c.args.volume.now) (c.requires.was_found told) (c.requires.was_found told).fits (g.V.Volume.moment c.args.volume.now) (g.V.Volume.may_leave c.args.volume.now) near)
run-second g c told near =
    let before = first_done g c in
    run_two (newest_of c.args.found.now) _ (c.requires.was_found told) (c.requires.was_found told).fits _ _ near _ _ (first-passes g (cut_first g before) told) (first-durable g before told) _ _ (second-passes g c told)

run-third : (g : Over) (c : After-write_synced g) (told : IsTrue (g.V.Volume.tells c.args.volume.now)) (near : AllNear (newest_of c.args.found.now) (g.V.Volume.files c.args.volume.now) (g.V.Volume.may_leave c.args.volume.now (g.V.Volume.moment c.args.volume.now)))
    → Run (g.V.Volume.moment c.args.volume.now) (g.V.Volume.moment c.write_synced.new.volume) (g.V.Volume.may_leave c.args.volume.now) (g.V.Volume.may_leave c.write_synced.new.volume)
    (P (newest_of c.args.found.now) (g.V.Volume.files c.args.volume.now) (c.requires.was_found told) (c.requires.was_found told).fits (g.V.Volume.moment c.args.volume.now) (g.V.Volume.may_leave c.args.volume.now) near)
    (On (newest_of c.args.found.now) (g.V.Volume.files c.args.volume.now) (c.requires.was_found told) (c.requires.was_found told).fits (g.V.Volume.moment c.args.volume.now) (g.V.Volume.may_leave c.args.volume.now) near)
run-third g c told near =
    let second = cut_second g (second_done g c) in
    let before = first_done g second in
    run_three (newest_of c.args.found.now) _ (c.requires.was_found told) (c.requires.was_found told).fits _ _ near _ _ (first-passes g (cut_first g before) told) (first-durable g before told) _ _ (second-passes g second told) _ _ (third-passes g c told)

-- ---- what reads give at the end

reads : (g : Over) (c : In_ok-write_synced g) (told : IsTrue (g.V.Volume.tells c.args.volume.now)) → Reads (newest_of c.args.found.now) (g.V.Volume.files c.args.volume.now) (c.requires.was_found told) (g.V.Volume.files c.write_synced.new.volume)
reads g c told =
    let second = second_done g (wrote g c) in
    let first = first_done g (cut_second g second) in
    reads_are (newest_of c.args.found.now) _ (c.requires.was_found told) _ _ _ (first-is g first told) (second-is g second told) (third-is g c told)

opened : (g : Over) (c : In_ok-write_synced g) (told : IsTrue (g.V.Volume.tells c.args.volume.now)) → AsOpened c.args.found.now.file c.args.found.now.end c.args.found.now.marks c.args.found.now.back (g.V.Volume.files c.write_synced.new.volume) (g.V.Volume.may_leave c.write_synced.new.volume (g.V.Volume.moment c.write_synced.new.volume))
opened g c told =
    let told1 : IsTrue (g.V.Volume.tells c.cut_synced.new.volume) = rw c.cut_synced.ensures.stays.tells told in
    let told2 : IsTrue (g.V.Volume.tells c.cut_synced-2.new.volume) = rw c.cut_synced-2.ensures.stays.tells told1 in
    let body = body_of c.args.found.now.file in
    let ends = ends_of c.args.found.now.file in
    let F2 = g.V.Volume.files c.cut_synced-2.new.volume in
    let F3 = g.V.Volume.files c.write_synced.new.volume in
    let body_durable : (left : Files) → g.V.Volume.may_leave c.cut_synced-2.new.volume (g.V.Volume.moment c.cut_synced-2.new.volume) left → get left body ≡ get F2 body = rw c.body_file-body.ensures at c.in_ok-cut_synced-2.ensures.durable told1 in
    let ends_durable : (left : Files) → g.V.Volume.may_leave c.write_synced.new.volume (g.V.Volume.moment c.write_synced.new.volume) left → get left ends ≡ get F3 ends = rw c.ends_file-ends.ensures at c.in_ok-write_synced.ensures.durable told2 in
    let same : get F3 body ≡ get F2 body = other_file F2 F3 ends body _ (files_apart c.args.found.now.file) (third-is g c told) in
    opened_as (newest_of c.args.found.now) _ (c.requires.was_found told) (c.requires.was_found told).fits F3 (reads g c told) _
    (still_durable _ _ _ _ ends body (OnBytes (Torn (13 * c.args.found.now.marks) 13)) (get F3 body) (files_apart c.args.found.now.file) (third-passes g (wrote g c) told) (λ left i. body_durable left i ∙ sym same))
    ends_durable

-- ---- the answers

pub cut_synced-requires-clause-no_longer : goal.cut_synced-requires-clause-no_longer
cut_synced-requires-clause-no_longer g c told =
    subst (λ (k : ℕ). 13 * (c.args.found.now.marks + 1) ≤ length (bytes_of (g.V.Volume.files c.args.volume.now) k)) (sym c.ends_file-ends.ensures)
    (kept_within (newest_of c.args.found.now) _ (c.requires.was_found told))

pub cut_synced-requires-2-clause-exists : goal.cut_synced-requires-2-clause-exists
cut_synced-requires-2-clause-exists g c told1 =
    let told : IsTrue (g.V.Volume.tells c.args.volume.now) = rw c.cut_synced.ensures.stays.tells at told1 in
    rw c.body_file-body.ensures (ap is_some (after_ends (newest_of c.args.found.now) _ (c.requires.was_found told) _ (first-is g (goal.at.cut_synced-requires-2-clause-exists g c).In_ok-cut_synced told)).1)

pub cut_synced-requires-2-clause-no_longer : goal.cut_synced-requires-2-clause-no_longer
cut_synced-requires-2-clause-no_longer g c told1 =
    let told : IsTrue (g.V.Volume.tells c.args.volume.now) = rw c.cut_synced.ensures.stays.tells at told1 in
    let body = (after_ends (newest_of c.args.found.now) _ (c.requires.was_found told) _ (first-is g (goal.at.cut_synced-requires-2-clause-no_longer g c).In_ok-cut_synced told)).1 in
    rw c.body_file-body.ensures (subst (λ (k : Content). c.args.found.now.end ≤ length (bytes_in k)) (sym body) (file_long (newest_of c.args.found.now) _ (c.requires.was_found told)))

pub write_synced-requires-clause-exists : goal.write_synced-requires-clause-exists
write_synced-requires-clause-exists g c told2 =
    let told1 : IsTrue (g.V.Volume.tells c.cut_synced.new.volume) = rw c.cut_synced-2.ensures.stays.tells at told2 in
    let told : IsTrue (g.V.Volume.tells c.args.volume.now) = rw c.cut_synced.ensures.stays.tells at told1 in
    let second = (goal.at.write_synced-requires-clause-exists g c).In_ok-cut_synced-2 in
    let first = first_done g (cut_second g second) in
    rw c.ends_file-ends.ensures (ap is_some (after_body (newest_of c.args.found.now) _ (c.requires.was_found told) _ _ (first-is g first told) (second-is g second told)).1)

pub write_synced-requires-clause-within : goal.write_synced-requires-clause-within
write_synced-requires-clause-within g c told2 =
    let told1 : IsTrue (g.V.Volume.tells c.cut_synced.new.volume) = rw c.cut_synced-2.ensures.stays.tells at told2 in
    let told : IsTrue (g.V.Volume.tells c.args.volume.now) = rw c.cut_synced.ensures.stays.tells at told1 in
    let second = (goal.at.write_synced-requires-clause-within g c).In_ok-cut_synced-2 in
    let first = first_done g (cut_second g second) in
    let ends = (after_body (newest_of c.args.found.now) _ (c.requires.was_found told) _ _ (first-is g first told) (second-is g second told)).1 in
    let size = cut_size (newest_of c.args.found.now) _ (c.requires.was_found told) (c.requires.was_found told).fits in
    rw c.ends_file-ends.ensures (subst (λ (k : Content). 13 * c.args.found.now.marks + 13 ≤ length (bytes_in k)) (sym ends) (omega (arith, size)))

pub returns-in_err-cut_synced-clause-crash : goal.returns-in_err-cut_synced-clause-crash
returns-in_err-cut_synced-clause-crash g c told near = run-first g (goal.at.returns-in_err-cut_synced-clause-crash g c).After-cut_synced told near

pub returns-in_err-cut_synced-2-clause-crash : goal.returns-in_err-cut_synced-2-clause-crash
returns-in_err-cut_synced-2-clause-crash g c told near = (run-second g (goal.at.returns-in_err-cut_synced-2-clause-crash g c).After-cut_synced-2 told near).passes

pub returns-in_err-write_synced-clause-crash : goal.returns-in_err-write_synced-clause-crash
returns-in_err-write_synced-clause-crash g c told near = (run-third g (goal.at.returns-in_err-write_synced-clause-crash g c).After-write_synced told near).passes

pub returns-clause-crash : goal.returns-clause-crash
returns-clause-crash g c told near = (run-third g (goal.at.returns-clause-crash g c).After-write_synced told near).passes

pub returns-clause-opened : goal.returns-clause-opened
returns-clause-opened g c told = opened g (goal.at.returns-clause-opened g c).In_ok-write_synced told

pub returns-clause-others : goal.returns-clause-others
returns-clause-others g c told = (reads g (goal.at.returns-clause-others g c).In_ok-write_synced told).others

pub returns-clause-stored : goal.returns-clause-stored
returns-clause-stored g c told near left i =
    let from = (run-third g (goal.at.returns-clause-stored g c).After-write_synced told near).present left i in
    tail_stored (newest_of c.args.found.now) _ (c.requires.was_found told) (c.requires.was_found told).fits left from.2.0

pub returns-clause-settled : goal.returns-clause-settled
returns-clause-settled g c told settled =
    let done = (goal.at.returns-clause-settled g c).In_ok-write_synced in
    let found = c.requires.was_found told in
    let images = g.V.Volume.may_leave c.args.volume.now (g.V.Volume.moment c.args.volume.now) in
    let run = run-third g (wrote g done) told (settled_near (newest_of c.args.found.now) _ found (c.requires.was_found told).fits images settled) in
    settled_again (newest_of c.args.found.now) _ found (c.requires.was_found told).fits images _ _ settled (reads g done told)
    (λ left i. let from = run.present left i in from.2.0)
    (λ left i. let from = run.present left i in (from.0, from.1, from.2.1))
    (opened g done told)

-- ---- the files beside the pair, where a call was refused

first-others : (g : Over) (c : After-cut_synced g) → IsTrue (g.V.Volume.tells c.args.volume.now) → (other : ℕ) → other ≢ ends_of c.args.found.now.file → get (g.V.Volume.files c.cut_synced.new.volume) other ≡ get (g.V.Volume.files c.args.volume.now) other
first-others g c told = rw c.ends_file-ends.ensures at c.cut_synced.ensures.others told

second-others : (g : Over) (c : After-cut_synced-2 g) → IsTrue (g.V.Volume.tells c.args.volume.now) → (other : ℕ) → other ≢ body_of c.args.found.now.file → get (g.V.Volume.files c.cut_synced-2.new.volume) other ≡ get (g.V.Volume.files c.cut_synced.new.volume) other
second-others g c told =
    let told1 : IsTrue (g.V.Volume.tells c.cut_synced.new.volume) = rw c.cut_synced.ensures.stays.tells told in
    rw c.body_file-body.ensures at c.cut_synced-2.ensures.others told1

third-others : (g : Over) (c : After-write_synced g) → IsTrue (g.V.Volume.tells c.args.volume.now) → (other : ℕ) → other ≢ ends_of c.args.found.now.file → get (g.V.Volume.files c.write_synced.new.volume) other ≡ get (g.V.Volume.files c.cut_synced-2.new.volume) other
third-others g c told =
    let told1 : IsTrue (g.V.Volume.tells c.cut_synced.new.volume) = rw c.cut_synced.ensures.stays.tells told in
    let told2 : IsTrue (g.V.Volume.tells c.cut_synced-2.new.volume) = rw c.cut_synced-2.ensures.stays.tells told1 in
    rw c.ends_file-ends.ensures at c.write_synced.ensures.others told2

pub returns-in_err-cut_synced-clause-others : goal.returns-in_err-cut_synced-clause-others
returns-in_err-cut_synced-clause-others g c told other not_body not_ends = first-others g (goal.at.returns-in_err-cut_synced-clause-others g c).After-cut_synced told other not_ends

pub returns-in_err-cut_synced-2-clause-others : goal.returns-in_err-cut_synced-2-clause-others
returns-in_err-cut_synced-2-clause-others g c told other not_body not_ends =
    let second = (goal.at.returns-in_err-cut_synced-2-clause-others g c).After-cut_synced-2 in
    second-others g second told other not_body ∙ first-others g (cut_first g (first_done g second)) told other not_ends

pub returns-in_err-write_synced-clause-others : goal.returns-in_err-write_synced-clause-others
returns-in_err-write_synced-clause-others g c told other not_body not_ends =
    let third = (goal.at.returns-in_err-write_synced-clause-others g c).After-write_synced in
    let second = cut_second g (second_done g third) in
    third-others g third told other not_ends ∙ second-others g second told other not_body ∙ first-others g (cut_first g (first_done g second)) told other not_ends

-- ---- what was found is kept

first-on : (g : Over) (c : After-cut_synced g) → IsTrue (g.V.Volume.tells c.args.volume.now)
    → OnFile (ends_of c.args.found.now.file) (OnBytes (Shortened (13 * (c.args.found.now.marks + 1)))) (g.V.Volume.files c.args.volume.now) (g.V.Volume.files c.cut_synced.new.volume)
first-on g c told = rw c.ends_file-ends.ensures at c.cut_synced.ensures.reads told

first-cut : (g : Over) (c : In_ok-cut_synced g) → IsTrue (g.V.Volume.tells c.args.volume.now)
    → get (g.V.Volume.files c.cut_synced.new.volume) (ends_of c.args.found.now.file) ≡ Some (take (13 * (c.args.found.now.marks + 1)) (bytes_of (g.V.Volume.files c.args.volume.now) (ends_of c.args.found.now.file)))
first-cut g c told = put_there _ _ (ends_of c.args.found.now.file) _ (first-is g c told)

second-on : (g : Over) (c : After-cut_synced-2 g) → IsTrue (g.V.Volume.tells c.args.volume.now)
    → OnFile (body_of c.args.found.now.file) (OnBytes (Shortened c.args.found.now.end)) (g.V.Volume.files c.cut_synced.new.volume) (g.V.Volume.files c.cut_synced-2.new.volume)
second-on g c told =
    let told1 : IsTrue (g.V.Volume.tells c.cut_synced.new.volume) = rw c.cut_synced.ensures.stays.tells told in
    rw c.body_file-body.ensures at c.cut_synced-2.ensures.reads told1

third-on : (g : Over) (c : After-write_synced g) → IsTrue (g.V.Volume.tells c.args.volume.now)
    → OnFile (ends_of c.args.found.now.file) (OnBytes (Torn (13 * c.args.found.now.marks) 13)) (g.V.Volume.files c.cut_synced-2.new.volume) (g.V.Volume.files c.write_synced.new.volume)
third-on g c told =
    let told1 : IsTrue (g.V.Volume.tells c.cut_synced.new.volume) = rw c.cut_synced.ensures.stays.tells told in
    let told2 : IsTrue (g.V.Volume.tells c.cut_synced-2.new.volume) = rw c.cut_synced-2.ensures.stays.tells told1 in
    rw c.ends_file-ends.ensures at c.write_synced.ensures.reads told2

three-kept : (g : Over) (c : After-write_synced g) → IsTrue (g.V.Volume.tells c.args.volume.now) → KeepsFound (newest_of c.args.found.now) (g.V.Volume.files c.args.volume.now) (g.V.Volume.files c.write_synced.new.volume)
three-kept g c told =
    let second = cut_second g (second_done g c) in
    let first = first_done g second in
    third_keeps (newest_of c.args.found.now) _ (c.requires.was_found told) (c.requires.was_found told).fits _ (first-on g (cut_first g first) told) (first-cut g first told) _ (second-on g second told) _ (third-on g c told)

pub returns-in_err-cut_synced-clause-keeps : goal.returns-in_err-cut_synced-clause-keeps
returns-in_err-cut_synced-clause-keeps g c told =
    first_keeps (newest_of c.args.found.now) _ (c.requires.was_found told) (c.requires.was_found told).fits _ (first-on g (goal.at.returns-in_err-cut_synced-clause-keeps g c).After-cut_synced told)

pub returns-in_err-cut_synced-2-clause-keeps : goal.returns-in_err-cut_synced-2-clause-keeps
returns-in_err-cut_synced-2-clause-keeps g c told =
    let second = (goal.at.returns-in_err-cut_synced-2-clause-keeps g c).After-cut_synced-2 in
    let first = first_done g second in
    second_keeps (newest_of c.args.found.now) _ (c.requires.was_found told) (c.requires.was_found told).fits _ (first-on g (cut_first g first) told) (first-cut g first told) _ (second-on g second told)

pub returns-in_err-write_synced-clause-keeps : goal.returns-in_err-write_synced-clause-keeps
returns-in_err-write_synced-clause-keeps g c told = three-kept g (goal.at.returns-in_err-write_synced-clause-keeps g c).After-write_synced told

pub returns-clause-keeps : goal.returns-clause-keeps
returns-clause-keeps g c told = three-kept g (goal.at.returns-clause-keeps g c).After-write_synced told

pub returns-clause-still_found : goal.returns-clause-still_found
returns-clause-still_found g c told = still_found (newest_of c.args.found.now) _ (c.requires.was_found told) (c.requires.was_found told).fits _ (reads g (goal.at.returns-clause-still_found g c).In_ok-write_synced told)
