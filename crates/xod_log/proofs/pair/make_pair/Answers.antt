use Rattle.std.proofs.Common.{rules, IsTrue, IsSome, ◌≡◌, ℕ, [], Some, refl, ◌∙◌, ap, sym, subst, length, arith}
use Rattle.std.specs.FinMap.{get}
use Rattle.xod_volume.specs.Files.{Files, Content, bytes_in}
use Rattle.xod_volume.specs.Crash.{OnFile, Appears, Passes}
use Rattle.xod_log.specs.Ends.{body_of, ends_of}
use Rattle.xod_log.specs.Standing.{IsSettled, has_pair}
use Rattle.xod_log.specs.Calls.{IsEmptyPair, MakesPair}
use Rattle.xod_log.specs.Runs.{Run}
use Rattle.xod_log.proofs.Appending.{not_device}
use Rattle.xod_log.proofs.Changed.{appended_file}
use Rattle.xod_log.proofs.Claims.{files_apart}
use Rattle.xod_log.proofs.Pairs.{Short, listed, has_both, known_ends, known_body, or_true, emptied_fine, emptied_short, short_body, short_mark, short_fine, run_listed, run_ends, run_body, run_mark, pair_left}
use Rattle.xod_log.proofs.Synced.{settled_rest}
use Rattle.xod_log.proofs.pair.make_pair.Given.{Over}
use Rattle.xod_log.proofs.pair.make_pair.Goals.{After-make_part, In_ok-make_part, After-make_part-2, In_ok-make_part-2, After-append_synced, In_ok-append_synced}
use Rattle.xod_log.proofs.pair.make_pair.Goals as goal

-- ---- the place of a call leads back to that of the one before it

abbrev emptying : (g : Over) → In_ok-make_part g → After-make_part g
emptying g c = c.before.before

abbrev emptied : (g : Over) → After-make_part-2 g → In_ok-make_part g
emptied g c = c.before.before.before

abbrev emptying-both : (g : Over) → In_ok-make_part-2 g → After-make_part-2 g
emptying-both g c = c.before.before

abbrev emptied-both : (g : Over) → After-append_synced g → In_ok-make_part-2 g
emptied-both g c = c.before.before.before.before

abbrev marking : (g : Over) → In_ok-append_synced g → After-append_synced g
marking g c = c.before.before

-- ---- the ends are emptied

ends-left : (g : Over) (c : After-make_part g) → IsTrue (g.V.Volume.tells c.args.volume.now)
    → Run (g.V.Volume.moment c.args.volume.now) (g.V.Volume.moment c.make_part.new.volume) (g.V.Volume.may_leave c.args.volume.now) (g.V.Volume.may_leave c.make_part.new.volume)
    (MakesPair c.args.file) (OnFile (ends_of c.args.file) Appears)
ends-left g c told =
    let t1 : IsTrue (g.V.Volume.tells c.files.new.self) = rw c.files.ensures.stays.tells told in
    run_ends c.args.file _ _ _ _ _ _ (run_listed c.args.file _ _ _ _ (c.files.ensures.rests told)) (rw c.ends_file-ends.ensures at c.make_part.ensures.crash t1)

ends-read : (g : Over) (c : After-make_part g) → IsTrue (g.V.Volume.tells c.args.volume.now)
    → OnFile (ends_of c.args.file) Appears (g.V.Volume.files c.args.volume.now) (g.V.Volume.files c.make_part.new.volume)
ends-read g c told =
    let t1 : IsTrue (g.V.Volume.tells c.files.new.self) = rw c.files.ensures.stays.tells told in
    subst (λ (f : Files). OnFile (ends_of c.args.file) Appears f (g.V.Volume.files c.make_part.new.volume)) (c.files.ensures.same told) (rw c.ends_file-ends.ensures at c.make_part.ensures.reads t1)

ends-settled : (g : Over) (c : In_ok-make_part g) → IsTrue (g.V.Volume.tells c.args.volume.now)
    → (other : ℕ) → IsSettled other (g.V.Volume.files c.args.volume.now) (g.V.Volume.may_leave c.args.volume.now (g.V.Volume.moment c.args.volume.now))
    → IsSettled other (g.V.Volume.files c.make_part.new.volume) (g.V.Volume.may_leave c.make_part.new.volume (g.V.Volume.moment c.make_part.new.volume))
ends-settled g c told other was =
    let t1 : IsTrue (g.V.Volume.tells c.files.new.self) = rw c.files.ensures.stays.tells told in
    c.in_ok-make_part.ensures.settled t1 (λ bad. search rules) other (settled_rest _ _ _ _ _ _ (c.files.ensures.same told) (c.files.ensures.rests told) other was)

-- ---- the body is emptied

body-left : (g : Over) (c : After-make_part-2 g) → IsTrue (g.V.Volume.tells c.args.volume.now)
    → Run (g.V.Volume.moment c.args.volume.now) (g.V.Volume.moment c.make_part-2.new.volume) (g.V.Volume.may_leave c.args.volume.now) (g.V.Volume.may_leave c.make_part-2.new.volume)
    (MakesPair c.args.file) (Short c.args.file 0)
body-left g c told =
    let t1 : IsTrue (g.V.Volume.tells c.files.new.self) = rw c.files.ensures.stays.tells told in
    let t2 : IsTrue (g.V.Volume.tells c.make_part.new.volume) = rw c.make_part.ensures.stays.tells t1 in
    run_body c.args.file _ _ _ _ _ _ (ends-left g (emptying g (emptied g c)) told)
    (rw c.ends_file-ends.ensures at c.in_ok-make_part.ensures.durable t1) (rw c.body_file-body.ensures at c.make_part-2.ensures.crash t2)

body-read : (g : Over) (c : After-make_part-2 g) → IsTrue (g.V.Volume.tells c.args.volume.now)
    → Short c.args.file 0 (g.V.Volume.files c.args.volume.now) (g.V.Volume.files c.make_part-2.new.volume)
body-read g c told =
    let t1 : IsTrue (g.V.Volume.tells c.files.new.self) = rw c.files.ensures.stays.tells told in
    let t2 : IsTrue (g.V.Volume.tells c.make_part.new.volume) = rw c.make_part.ensures.stays.tells t1 in
    short_body c.args.file 0 _ _ _
    (emptied_short c.args.file _ _ (rw c.ends_file-ends.ensures at c.in_ok-make_part.ensures.emptied t1) (ends-read g (emptying g (emptied g c)) told))
    (rw c.body_file-body.ensures at c.make_part-2.ensures.reads t2)

ends-there : (g : Over) (c : After-make_part-2 g) → IsTrue (g.V.Volume.tells c.args.volume.now) → get (g.V.Volume.files c.make_part-2.new.volume) (ends_of c.args.file) ≡ Some []
ends-there g c told =
    let t1 : IsTrue (g.V.Volume.tells c.files.new.self) = rw c.files.ensures.stays.tells told in
    let t2 : IsTrue (g.V.Volume.tells c.make_part.new.volume) = rw c.make_part.ensures.stays.tells t1 in
    (rw c.body_file-body.ensures at c.make_part-2.ensures.others t2) (ends_of c.args.file) (λ e. files_apart c.args.file (sym e))
    ∙ (rw c.ends_file-ends.ensures at c.in_ok-make_part.ensures.emptied t1)

body-settled : (g : Over) (c : In_ok-make_part-2 g) → IsTrue (g.V.Volume.tells c.args.volume.now)
    → (other : ℕ) → IsSettled other (g.V.Volume.files c.args.volume.now) (g.V.Volume.may_leave c.args.volume.now (g.V.Volume.moment c.args.volume.now))
    → IsSettled other (g.V.Volume.files c.make_part-2.new.volume) (g.V.Volume.may_leave c.make_part-2.new.volume (g.V.Volume.moment c.make_part-2.new.volume))
body-settled g c told other was =
    let t2 : IsTrue (g.V.Volume.tells c.make_part.new.volume) = rw (c.make_part.ensures.stays.tells, c.files.ensures.stays.tells) told in
    c.in_ok-make_part-2.ensures.settled t2 (λ bad. search rules) other (ends-settled g (emptied g (emptying-both g c)) told other was)

-- ---- whether the pair is there

ends-known : (g : Over) (c : After-make_part g) → IsTrue (g.V.Volume.tells c.args.volume.now)
    → c.args.is_there.now ≡ has_pair (g.V.Volume.files c.args.volume.now) c.args.file → c.make_part.new.is_there ≡ has_pair (g.V.Volume.files c.make_part.new.volume) c.args.file
ends-known g c told known =
    let t1 : IsTrue (g.V.Volume.tells c.files.new.self) = rw c.files.ensures.stays.tells told in
    let v0 = c.args.volume.now in
    let here = listed (g.V.Volume.files v0) (g.V.Volume.files v0) _ _ c.body_file-body.result _ c.lists-has_body.ensures c.deref-2.ensures.value (c.in_ok-present.ensures.listed told) refl in
    known_ends c.args.file (g.V.Volume.files v0) (g.V.Volume.files c.make_part.new.volume) c.args.is_there.now c.lists-has_body.result c.make_part.new.is_there
    (ends-read g c told) (rw c.body_file-body.ensures at here) known (rw c.ends_file-ends.ensures at c.make_part.ensures.known t1)

body-known : (g : Over) (c : After-make_part-2 g) → IsTrue (g.V.Volume.tells c.args.volume.now)
    → c.args.is_there.now ≡ has_pair (g.V.Volume.files c.args.volume.now) c.args.file → c.make_part-2.new.is_there ≡ has_pair (g.V.Volume.files c.make_part-2.new.volume) c.args.file
body-known g c told known =
    let t1 : IsTrue (g.V.Volume.tells c.files.new.self) = rw c.files.ensures.stays.tells told in
    let t2 : IsTrue (g.V.Volume.tells c.make_part.new.volume) = rw c.make_part.ensures.stays.tells t1 in
    known_body c.args.file (g.V.Volume.files c.make_part.new.volume) (g.V.Volume.files c.make_part-2.new.volume) c.make_part.new.is_there c.make_part-2.new.is_there
    (rw c.body_file-body.ensures at c.make_part-2.ensures.reads t2) (rw c.ends_file-ends.ensures at c.in_ok-make_part.ensures.emptied t1)
    (ends-known g (emptying g (emptied g c)) told known) (rw c.body_file-body.ensures at c.make_part-2.ensures.known t2)

-- ---- a closed mark is appended

mark-left : (g : Over) (c : After-append_synced g) → IsTrue (g.V.Volume.tells c.args.volume.now)
    → Passes (g.V.Volume.moment c.args.volume.now) (g.V.Volume.moment c.append_synced.new.volume) (g.V.Volume.may_leave c.args.volume.now) (g.V.Volume.may_leave c.append_synced.new.volume)
    (MakesPair c.args.file)
mark-left g c told =
    let here = emptying-both g (emptied-both g c) in
    let t3 : IsTrue (g.V.Volume.tells c.make_part-2.new.volume) = rw (c.make_part-2.ensures.stays.tells, c.make_part.ensures.stays.tells, c.files.ensures.stays.tells) told in
    run_mark c.args.file _ _ _ _ _ _ _ (ap (λ (o : Content). length (bytes_in o)) (ends-there g here told)) (body-left g here told)
    (rw c.ends_file-ends.ensures at c.append_synced.ensures.crash t3)

mark-short : (g : Over) (c : After-append_synced g) → IsTrue (g.V.Volume.tells c.args.volume.now)
    → Short c.args.file 13 (g.V.Volume.files c.args.volume.now) (g.V.Volume.files c.append_synced.new.volume)
mark-short g c told =
    let here = emptying-both g (emptied-both g c) in
    let t3 : IsTrue (g.V.Volume.tells c.make_part-2.new.volume) = rw (c.make_part-2.ensures.stays.tells, c.make_part.ensures.stays.tells, c.files.ensures.stays.tells) told in
    short_mark c.args.file 13 _ _ _ _ (ap (λ (o : Content). length (bytes_in o)) (ends-there g here told)) (body-read g here told)
    (rw c.ends_file-ends.ensures at c.append_synced.ensures.torn t3)

mark-read : (g : Over) (c : After-append_synced g) → IsTrue (g.V.Volume.tells c.args.volume.now)
    → MakesPair c.args.file (g.V.Volume.files c.args.volume.now) (g.V.Volume.files c.append_synced.new.volume)
mark-read g c told = short_fine c.args.file 13 _ _ (omega arith) (mark-short g c told)

mark-body : (g : Over) (c : After-append_synced g) → IsTrue (g.V.Volume.tells c.args.volume.now) → get (g.V.Volume.files c.append_synced.new.volume) (body_of c.args.file) ≡ Some []
mark-body g c told =
    let t2 : IsTrue (g.V.Volume.tells c.make_part.new.volume) = rw (c.make_part.ensures.stays.tells, c.files.ensures.stays.tells) told in
    let t3 : IsTrue (g.V.Volume.tells c.make_part-2.new.volume) = rw c.make_part-2.ensures.stays.tells t2 in
    (rw c.ends_file-ends.ensures at c.append_synced.ensures.others t3) (body_of c.args.file) (files_apart c.args.file) ∙ (rw c.body_file-body.ensures at c.in_ok-make_part-2.ensures.emptied t2)

mark-known : (g : Over) (c : After-append_synced g) → IsTrue (g.V.Volume.tells c.args.volume.now) → c.make_part-2.new.is_there ≡ has_pair (g.V.Volume.files c.append_synced.new.volume) c.args.file
mark-known g c told =
    let short = mark-short g c told in
    c.in_ok-make_part-2.ensures.there ∙ or_true c.make_part.new.is_there
    ∙ has_both c.args.file (g.V.Volume.files c.append_synced.new.volume) [] short.ends (mark-body g c told) short.there

made : (g : Over) (c : In_ok-append_synced g) → IsTrue (g.V.Volume.tells c.args.volume.now) → IsEmptyPair c.args.file (g.V.Volume.files c.append_synced.new.volume)
made g c told =
    let t3 : IsTrue (g.V.Volume.tells c.make_part-2.new.volume) = rw (c.make_part-2.ensures.stays.tells, c.make_part.ensures.stays.tells, c.files.ensures.stays.tells) told in
    record {
      body = mark-body g (marking g c) told;
      ends = appended_file _ _ (ends_of c.args.file) _ [] (ends-there g (emptying-both g (emptied-both g (marking g c))) told) (rw c.ends_file-ends.ensures at c.in_ok-append_synced.ensures.appended t3);
    }

-- ---- the goals

pub make_part-requires : goal.make_part-requires
make_part-requires g c =
    record {
      known = λ t1.
          let told : IsTrue (g.V.Volume.tells c.args.volume.now) = rw c.files.ensures.stays.tells at t1 in
          listed _ (g.V.Volume.files c.files.new.self) _ _ c.ends_file-ends.result _ c.lists-has_ends.ensures c.deref.ensures.value (c.in_ok-present.ensures.listed told)
          (ap (λ (f : Files). get f c.ends_file-ends.result) (c.files.ensures.same told));
    }

pub make_part-requires-2 : goal.make_part-requires-2
make_part-requires-2 g c =
    record {
      known = λ t2.
          let t1 : IsTrue (g.V.Volume.tells c.files.new.self) = rw c.make_part.ensures.stays.tells at t2 in
          let told : IsTrue (g.V.Volume.tells c.args.volume.now) = rw c.files.ensures.stays.tells at t1 in
          listed _ (g.V.Volume.files c.make_part.new.volume) _ _ c.body_file-body.result _ c.lists-has_body.ensures c.deref-2.ensures.value (c.in_ok-present.ensures.listed told)
          (c.make_part.ensures.others t1 c.body_file-body.result (rw (c.body_file-body.ensures, c.ends_file-ends.ensures) (files_apart c.args.file)) ∙ ap (λ (f : Files). get f c.body_file-body.result) (c.files.ensures.same told));
    }

pub append_synced-requires : goal.append_synced-requires
append_synced-requires g c =
    record {
      exists = λ t3.
          let told : IsTrue (g.V.Volume.tells c.args.volume.now) = subst IsTrue (c.make_part-2.ensures.stays.tells ∙ c.make_part.ensures.stays.tells ∙ c.files.ensures.stays.tells) t3 in
          let there = ends-there g (emptying-both g (goal.at.append_synced-requires g c).In_ok-make_part-2) told in
          subst (λ (o : Content). IsSome o) (sym (ap (get (g.V.Volume.files c.make_part-2.new.volume)) c.ends_file-ends.ensures ∙ there)) refl;
    }

pub returns-in_err-present-clause-crash : goal.returns-in_err-present-clause-crash
returns-in_err-present-clause-crash g c told = (run_listed c.args.file _ _ _ _ (c.files.ensures.rests told)).passes

pub returns-in_err-present-clause-settled : goal.returns-in_err-present-clause-settled
returns-in_err-present-clause-settled g c told fine = settled_rest _ _ _ _ _ _ (c.files.ensures.same told) (c.files.ensures.rests told)

pub returns-in_err-make_part-clause-crash : goal.returns-in_err-make_part-clause-crash
returns-in_err-make_part-clause-crash g c told = (ends-left g (goal.at.returns-in_err-make_part-clause-crash g c).After-make_part told).passes

pub returns-in_err-make_part-clause-reads : goal.returns-in_err-make_part-clause-reads
returns-in_err-make_part-clause-reads g c told = emptied_fine c.args.file _ _ (ends-read g (goal.at.returns-in_err-make_part-clause-reads g c).After-make_part told)

pub returns-in_err-make_part-clause-others : goal.returns-in_err-make_part-clause-others
returns-in_err-make_part-clause-others g c told other not_body not_ends = (ends-read g (goal.at.returns-in_err-make_part-clause-others g c).After-make_part told).others other not_ends

pub returns-in_err-make_part-clause-settled : goal.returns-in_err-make_part-clause-settled
returns-in_err-make_part-clause-settled g c told fine other was =
    let t1 : IsTrue (g.V.Volume.tells c.files.new.self) = rw c.files.ensures.stays.tells told in
    c.make_part.ensures.settled t1 (λ bad. search rules) other (settled_rest _ _ _ _ _ _ (c.files.ensures.same told) (c.files.ensures.rests told) other was)

pub returns-in_err-make_part-2-clause-crash : goal.returns-in_err-make_part-2-clause-crash
returns-in_err-make_part-2-clause-crash g c told = (body-left g (goal.at.returns-in_err-make_part-2-clause-crash g c).After-make_part-2 told).passes

pub returns-in_err-make_part-2-clause-reads : goal.returns-in_err-make_part-2-clause-reads
returns-in_err-make_part-2-clause-reads g c told = short_fine c.args.file 0 _ _ (omega arith) (body-read g (goal.at.returns-in_err-make_part-2-clause-reads g c).After-make_part-2 told)

pub returns-in_err-make_part-2-clause-others : goal.returns-in_err-make_part-2-clause-others
returns-in_err-make_part-2-clause-others g c told = (body-read g (goal.at.returns-in_err-make_part-2-clause-others g c).After-make_part-2 told).others

pub returns-in_err-make_part-2-clause-settled : goal.returns-in_err-make_part-2-clause-settled
returns-in_err-make_part-2-clause-settled g c told fine other was =
    let t2 : IsTrue (g.V.Volume.tells c.make_part.new.volume) = rw (c.make_part.ensures.stays.tells, c.files.ensures.stays.tells) told in
    let same = not_device c.make_part-2.result c.from_residual-in_err-make_part-2.result c.in_err-make_part-2.field-0.0 (c.in_err-make_part-2.was {u = tt}) c.from_residual-in_err-make_part-2.ensures.1 fine in
    c.make_part-2.ensures.settled t2 same other (ends-settled g (goal.at.returns-in_err-make_part-2-clause-settled g c).In_ok-make_part told other was)

pub returns-in_err-make_part-clause-known : goal.returns-in_err-make_part-clause-known
returns-in_err-make_part-clause-known g c = ends-known g (goal.at.returns-in_err-make_part-clause-known g c).After-make_part

pub returns-in_err-make_part-2-clause-known : goal.returns-in_err-make_part-2-clause-known
returns-in_err-make_part-2-clause-known g c = body-known g (goal.at.returns-in_err-make_part-2-clause-known g c).After-make_part-2

pub returns-in_err-append_synced-clause-known : goal.returns-in_err-append_synced-clause-known
returns-in_err-append_synced-clause-known g c told known = mark-known g (goal.at.returns-in_err-append_synced-clause-known g c).After-append_synced told

pub returns-clause-known : goal.returns-clause-known
returns-clause-known g c told known = mark-known g (goal.at.returns-clause-known g c).After-append_synced told

pub returns-in_err-append_synced-clause-crash : goal.returns-in_err-append_synced-clause-crash
returns-in_err-append_synced-clause-crash g c = mark-left g (goal.at.returns-in_err-append_synced-clause-crash g c).After-append_synced

pub returns-in_err-append_synced-clause-reads : goal.returns-in_err-append_synced-clause-reads
returns-in_err-append_synced-clause-reads g c = mark-read g (goal.at.returns-in_err-append_synced-clause-reads g c).After-append_synced

pub returns-in_err-append_synced-clause-others : goal.returns-in_err-append_synced-clause-others
returns-in_err-append_synced-clause-others g c told = (mark-read g (goal.at.returns-in_err-append_synced-clause-others g c).After-append_synced told).others

pub returns-in_err-append_synced-clause-settled : goal.returns-in_err-append_synced-clause-settled
returns-in_err-append_synced-clause-settled g c told fine other was =
    let t3 : IsTrue (g.V.Volume.tells c.make_part-2.new.volume) = rw (c.make_part-2.ensures.stays.tells, c.make_part.ensures.stays.tells, c.files.ensures.stays.tells) told in
    c.append_synced.ensures.settled t3 (λ bad. search rules) other (body-settled g (goal.at.returns-in_err-append_synced-clause-settled g c).In_ok-make_part-2 told other was)

pub returns-clause-crash : goal.returns-clause-crash
returns-clause-crash g c = mark-left g (goal.at.returns-clause-crash g c).After-append_synced

pub returns-clause-reads : goal.returns-clause-reads
returns-clause-reads g c = mark-read g (goal.at.returns-clause-reads g c).After-append_synced

pub returns-clause-others : goal.returns-clause-others
returns-clause-others g c told = (mark-read g (goal.at.returns-clause-others g c).After-append_synced told).others

pub returns-clause-made : goal.returns-clause-made
returns-clause-made g c = made g (goal.at.returns-clause-made g c).In_ok-append_synced

pub returns-clause-durable : goal.returns-clause-durable
returns-clause-durable g c told =
    let t2 : IsTrue (g.V.Volume.tells c.make_part.new.volume) = rw (c.make_part.ensures.stays.tells, c.files.ensures.stays.tells) told in
    let t3 : IsTrue (g.V.Volume.tells c.make_part-2.new.volume) = rw c.make_part-2.ensures.stays.tells t2 in
    pair_left c.args.file _ _ _ _ _ _ _ (rw c.ends_file-ends.ensures at c.append_synced.ensures.crash t3)
    (rw c.body_file-body.ensures at c.in_ok-make_part-2.ensures.durable t2) (rw c.ends_file-ends.ensures at c.in_ok-append_synced.ensures.durable t3)
    (made g (goal.at.returns-clause-durable g c).In_ok-append_synced told)

pub returns-clause-settled : goal.returns-clause-settled
returns-clause-settled g c told fine other was =
    let t3 : IsTrue (g.V.Volume.tells c.make_part-2.new.volume) = rw (c.make_part-2.ensures.stays.tells, c.make_part.ensures.stays.tells, c.files.ensures.stays.tells) told in
    c.in_ok-append_synced.ensures.settled t3 (λ bad. search rules) other (body-settled g (goal.at.returns-clause-settled g c).In_ok-make_part-2 told other was)
