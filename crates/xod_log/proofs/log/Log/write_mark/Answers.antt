use Rattle.std.proofs.Common.{◌≡◌, ℕ, ◌+◌, ◌*◌, List, [], ◌∷◌, length, Some, refl, sym, ◌∙◌, ap, subst, arith, inr}
use Rattle.std.specs.Prelude.{IsTrue, IsSome}
use Rattle.std.specs.FinMap.{get}
use Rattle.std.proofs.lemmas.Result.{err_from_is_err_and}
use Rattle.xod_volume.specs.Files.{Files, Content, bytes_in, bytes_of}
use Rattle.xod_volume.specs.Crash.{OnFile, OnBytes, Torn}
use Rattle.xod_log.specs.Ends.{numbers}
use Rattle.xod_log.specs.Standing.{body_file, ends_file}
use Rattle.xod_log.specs.Calls.{no_mark}
use Rattle.xod_log.proofs.Changed.{written_file, appended_file}
use Rattle.xod_log.proofs.Claims.{files_apart}
use Rattle.xod_log.proofs.Marking.{Closing, Opening, numbered_ends, followed_ends, numbered_long, followed_long, opened_is, numbered_stands, settled, numbering, following, followed, opening, closing_fine, opening_fine}
use Rattle.xod_log.proofs.Runs.{unmoved}
use Rattle.xod_log.proofs.SealRuns.{SealRun, IsClosing, IsOpening, body_synced, body_whole, numbers_written, mark_appended, gate_opened, synced_first, closing_first, opening_whole, numbers_stand}
use Rattle.xod_log.proofs.log.Log.write_mark.Given.{Over}
use Rattle.xod_log.proofs.log.Log.write_mark.Goals.{After-write_at, In_ok-write_at, After-append_synced, In_ok-append_synced, After-write_synced}
use Rattle.xod_log.proofs.log.Log.write_mark.Goals as goal

-- ---- the place of a call leads back to that of the one before it

abbrev writing : (g : Over) → In_ok-write_at g → After-write_at g
writing g c = c.before.before

abbrev written : (g : Over) → After-append_synced g → In_ok-write_at g
written g c = c.before.before.before.before

abbrev appending : (g : Over) → In_ok-append_synced g → After-append_synced g
appending g c = c.before.before

abbrev appended : (g : Over) → After-write_synced g → In_ok-append_synced g
appended g c = c.before.before.before.before

-- ---- the body is synced, and the numbers are written

numbers-left : (g : Over) (c : After-write_at g) (told : IsTrue (g.V.Volume.tells c.args.volume.now))
    → SealRun c.args.self.now (g.V.Volume.files c.args.volume.now) (g.V.Volume.moment c.args.volume.now) (g.V.Volume.moment c.write_at.new.self) (g.V.Volume.may_leave c.args.volume.now) (g.V.Volume.may_leave c.write_at.new.self)
    (IsClosing c.args.self.now (g.V.Volume.files c.args.volume.now) (g.V.Volume.moment c.args.volume.now) (g.V.Volume.may_leave c.args.volume.now) (c.requires.stands told) (13 * (c.args.self.now.marks + 1)))
numbers-left g c told =
    let t1 : IsTrue (g.V.Volume.tells c.sync.new.self) = rw c.sync.ensures.stays.tells told in
    numbers_written _ _ _ _ (c.requires.stands told) _ _ _ _
    (body_whole _ _ _ _ (c.requires.stands told) _ _ (rw c.body_file-body.ensures at c.in_ok-sync.ensures.durable told) (body_synced _ _ _ _ (c.requires.stands told) _ _ (c.sync.ensures.crash told)))
    (rw (c.ends_file-ends.ensures, c.requires.place, c.mark_numbers-numbers.ensures) at c.write_at.ensures.crash t1)

numbers-read : (g : Over) (c : After-write_at g) (told : IsTrue (g.V.Volume.tells c.args.volume.now))
    → Closing c.args.self.now (bytes_of (g.V.Volume.files c.args.volume.now) (body_file c.args.self.now)) (bytes_of (g.V.Volume.files c.args.volume.now) (ends_file c.args.self.now)) (c.requires.stands told).at_rest (13 * (c.args.self.now.marks + 1)) (g.V.Volume.files c.args.volume.now) (g.V.Volume.files c.write_at.new.self)
numbers-read g c told =
    let s = (c.requires.stands told) in
    let t1 : IsTrue (g.V.Volume.tells c.sync.new.self) = rw c.sync.ensures.stays.tells told in
    let torn = subst (λ (f : Files). OnFile (ends_file c.args.self.now) (OnBytes (Torn (13 * c.args.self.now.marks) 12)) f (g.V.Volume.files c.write_at.new.self)) (c.sync.ensures.same told)
    (rw (c.ends_file-ends.ensures, c.requires.place, c.mark_numbers-numbers.ensures) at c.write_at.ensures.torn t1) in
    numbering _ _ _ s.at_rest _ _ _ (settled _ _ _ s.at_rest _ (record { has_body = s.has_body; has_ends = s.has_ends; at_rest = s.at_rest }) s.has_body) torn

numbers-there : (g : Over) (c : In_ok-write_at g) (told : IsTrue (g.V.Volume.tells c.args.volume.now)) → get (g.V.Volume.files c.write_at.new.self) (ends_file c.args.self.now) ≡ Some (numbered_ends c.args.self.now (bytes_of (g.V.Volume.files c.args.volume.now) (body_file c.args.self.now)) (bytes_of (g.V.Volume.files c.args.volume.now) (ends_file c.args.self.now)) (c.requires.stands told).at_rest)
numbers-there g c told =
    let t1 : IsTrue (g.V.Volume.tells c.sync.new.self) = rw c.sync.ensures.stays.tells told in
    let before = ap (λ (f : Files). get f (ends_file c.args.self.now)) (c.sync.ensures.same told) ∙ (c.requires.stands told).has_ends in
    written_file _ _ (ends_file c.args.self.now) (13 * c.args.self.now.marks) (numbers c.args.self.now.end c.args.self.now.back) _ before
    (rw (c.ends_file-ends.ensures, c.requires.place, c.mark_numbers-numbers.ensures) at c.in_ok-write_at.ensures.written t1)

-- ---- a closed mark follows

mark-left : (g : Over) (c : After-append_synced g) (told : IsTrue (g.V.Volume.tells c.args.volume.now))
    → SealRun c.args.self.now (g.V.Volume.files c.args.volume.now) (g.V.Volume.moment c.args.volume.now) (g.V.Volume.moment c.append_synced.new.volume) (g.V.Volume.may_leave c.args.volume.now) (g.V.Volume.may_leave c.append_synced.new.volume)
    (IsClosing c.args.self.now (g.V.Volume.files c.args.volume.now) (g.V.Volume.moment c.args.volume.now) (g.V.Volume.may_leave c.args.volume.now) (c.requires.stands told) (13 * (c.args.self.now.marks + 2)))
mark-left g c told =
    let t2 : IsTrue (g.V.Volume.tells c.write_at.new.self) = rw (c.write_at.ensures.stays.tells, c.sync.ensures.stays.tells) told in
    mark_appended _ _ _ _ (c.requires.stands told) _ _ _ _ _
    (ap (λ (o : Content). length (bytes_in o)) (numbers-there g (written g c) told) ∙ numbered_long c.args.self.now (bytes_of (g.V.Volume.files c.args.volume.now) (body_file c.args.self.now)) (bytes_of (g.V.Volume.files c.args.volume.now) (ends_file c.args.self.now)) (c.requires.stands told).at_rest)
    (numbers-left g (writing g (written g c)) told) (rw c.ends_file-ends.ensures at c.append_synced.ensures.crash t2)

mark-read : (g : Over) (c : After-append_synced g) (told : IsTrue (g.V.Volume.tells c.args.volume.now))
    → Closing c.args.self.now (bytes_of (g.V.Volume.files c.args.volume.now) (body_file c.args.self.now)) (bytes_of (g.V.Volume.files c.args.volume.now) (ends_file c.args.self.now)) (c.requires.stands told).at_rest (13 * (c.args.self.now.marks + 2)) (g.V.Volume.files c.args.volume.now) (g.V.Volume.files c.append_synced.new.volume)
mark-read g c told =
    let t2 : IsTrue (g.V.Volume.tells c.write_at.new.self) = rw (c.write_at.ensures.stays.tells, c.sync.ensures.stays.tells) told in
    following _ _ _ (c.requires.stands told).at_rest _ _ _ _
    (ap (λ (o : Content). length (bytes_in o)) (numbers-there g (written g c) told) ∙ numbered_long c.args.self.now (bytes_of (g.V.Volume.files c.args.volume.now) (body_file c.args.self.now)) (bytes_of (g.V.Volume.files c.args.volume.now) (ends_file c.args.self.now)) (c.requires.stands told).at_rest)
    (numbers-read g (writing g (written g c)) told) (rw c.ends_file-ends.ensures at c.append_synced.ensures.torn t2)

mark-there : (g : Over) (c : In_ok-append_synced g) (told : IsTrue (g.V.Volume.tells c.args.volume.now)) → get (g.V.Volume.files c.append_synced.new.volume) (ends_file c.args.self.now) ≡ Some (followed_ends c.args.self.now (bytes_of (g.V.Volume.files c.args.volume.now) (body_file c.args.self.now)) (bytes_of (g.V.Volume.files c.args.volume.now) (ends_file c.args.self.now)) (c.requires.stands told).at_rest)
mark-there g c told =
    let t2 : IsTrue (g.V.Volume.tells c.write_at.new.self) = rw (c.write_at.ensures.stays.tells, c.sync.ensures.stays.tells) told in
    appended_file _ _ (ends_file c.args.self.now) no_mark _ (numbers-there g (written g (appending g c)) told) (rw c.ends_file-ends.ensures at c.in_ok-append_synced.ensures.appended t2)

-- ---- the gate is written

gate-left : (g : Over) (c : After-write_synced g) (told : IsTrue (g.V.Volume.tells c.args.volume.now))
    → SealRun c.args.self.now (g.V.Volume.files c.args.volume.now) (g.V.Volume.moment c.args.volume.now) (g.V.Volume.moment c.write_synced.new.volume) (g.V.Volume.may_leave c.args.volume.now) (g.V.Volume.may_leave c.write_synced.new.volume)
    (IsOpening c.args.self.now (g.V.Volume.files c.args.volume.now) (g.V.Volume.moment c.args.volume.now) (g.V.Volume.may_leave c.args.volume.now) (c.requires.stands told))
gate-left g c told =
    let t2 : IsTrue (g.V.Volume.tells c.write_at.new.self) = rw (c.write_at.ensures.stays.tells, c.sync.ensures.stays.tells) told in
    let t3 : IsTrue (g.V.Volume.tells c.append_synced.new.volume) = rw c.append_synced.ensures.stays.tells t2 in
    gate_opened _ _ _ _ (c.requires.stands told) _ _ _ _ c.requires.unsealed
    (λ left i. (rw c.ends_file-ends.ensures at c.in_ok-append_synced.ensures.durable t2 left i) ∙ mark-there g (appended g c) told)
    (mark-left g (appending g (appended g c)) told) (rw (c.ends_file-ends.ensures, c.requires.place) at c.write_synced.ensures.crash t3)

gate-read : (g : Over) (c : After-write_synced g) (told : IsTrue (g.V.Volume.tells c.args.volume.now))
    → Opening c.args.self.now (bytes_of (g.V.Volume.files c.args.volume.now) (body_file c.args.self.now)) (bytes_of (g.V.Volume.files c.args.volume.now) (ends_file c.args.self.now)) (c.requires.stands told).at_rest (g.V.Volume.files c.args.volume.now) (g.V.Volume.files c.write_synced.new.volume)
gate-read g c told =
    let t3 : IsTrue (g.V.Volume.tells c.append_synced.new.volume) = rw (c.append_synced.ensures.stays.tells, c.write_at.ensures.stays.tells, c.sync.ensures.stays.tells) told in
    opening _ _ _ (c.requires.stands told).at_rest _ _ _
    (followed _ _ _ (c.requires.stands told).at_rest _ _ _ (mark-there g (appended g c) told) (mark-read g (appending g (appended g c)) told))
    (rw (c.ends_file-ends.ensures, c.requires.place) at c.write_synced.ensures.torn t3)

-- ---- the goals

pub returns-in_err-sync-clause-leaves : goal.returns-in_err-sync-clause-leaves
returns-in_err-sync-clause-leaves g c told = (body_synced _ _ _ _ (c.requires.stands told) _ _ (c.sync.ensures.crash told)).passes

pub returns-in_err-sync-clause-body_first : goal.returns-in_err-sync-clause-body_first
returns-in_err-sync-clause-body_first g c told = synced_first _ _ _ _ (c.requires.stands told) _ _ (body_synced _ _ _ _ (c.requires.stands told) _ _ (c.sync.ensures.crash told))

pub returns-in_err-write_at-clause-leaves : goal.returns-in_err-write_at-clause-leaves
returns-in_err-write_at-clause-leaves g c told = (numbers-left g (goal.at.returns-in_err-write_at-clause-leaves g c).After-write_at told).passes

pub returns-in_err-write_at-clause-body_first : goal.returns-in_err-write_at-clause-body_first
returns-in_err-write_at-clause-body_first g c told = closing_first _ _ _ _ (c.requires.stands told) _ _ _ (numbers-left g (goal.at.returns-in_err-write_at-clause-body_first g c).After-write_at told)

pub returns-in_err-write_at-clause-reads : goal.returns-in_err-write_at-clause-reads
returns-in_err-write_at-clause-reads g c told =
    let s = (c.requires.stands told) in
    closing_fine _ _ _ s.at_rest (13 * (c.args.self.now.marks + 1)) (omega arith) _ _ (record { has_body = s.has_body; has_ends = s.has_ends; at_rest = s.at_rest }) (numbers-read g (goal.at.returns-in_err-write_at-clause-reads g c).After-write_at told)

pub returns-in_err-append_synced-clause-leaves : goal.returns-in_err-append_synced-clause-leaves
returns-in_err-append_synced-clause-leaves g c told = (mark-left g (goal.at.returns-in_err-append_synced-clause-leaves g c).After-append_synced told).passes

pub returns-in_err-append_synced-clause-body_first : goal.returns-in_err-append_synced-clause-body_first
returns-in_err-append_synced-clause-body_first g c told = closing_first _ _ _ _ (c.requires.stands told) _ _ _ (mark-left g (goal.at.returns-in_err-append_synced-clause-body_first g c).After-append_synced told)

pub returns-in_err-append_synced-clause-reads : goal.returns-in_err-append_synced-clause-reads
returns-in_err-append_synced-clause-reads g c told =
    let s = (c.requires.stands told) in
    closing_fine _ _ _ s.at_rest (13 * (c.args.self.now.marks + 2)) (omega arith) _ _ (record { has_body = s.has_body; has_ends = s.has_ends; at_rest = s.at_rest }) (mark-read g (goal.at.returns-in_err-append_synced-clause-reads g c).After-append_synced told)

pub returns-in_err-append_synced-clause-others : goal.returns-in_err-append_synced-clause-others
returns-in_err-append_synced-clause-others g c told = (mark-read g (goal.at.returns-in_err-append_synced-clause-others g c).After-append_synced told).others

pub returns-in_err-append_synced-clause-memory : goal.returns-in_err-append_synced-clause-memory
returns-in_err-append_synced-clause-memory g c told memory =
    let s = (c.requires.stands told) in
    let here = (goal.at.returns-in_err-append_synced-clause-memory g c).In_ok-write_at in
    let before = writing g here in
    let t2 : IsTrue (g.V.Volume.tells c.write_at.new.self) = rw (c.write_at.ensures.stays.tells, c.sync.ensures.stays.tells) told in
    let error = err_from_is_err_and c.from_residual-in_err-append_synced.result c.from_residual-in_err-append_synced.ensures.1 in
    let is_memory = c.in_err-append_synced.was {u = tt} ∙ (rw (error.1, error.2) at memory) in
    let same = c.append_synced.ensures.unchanged t2 is_memory in
    let body = (numbers-read g before told).others (body_file c.args.self.now) (files_apart c.args.self.now.file) ∙ s.has_body in
    numbered_stands c.args.self.now (bytes_of (g.V.Volume.files c.args.volume.now) (body_file c.args.self.now)) (bytes_of (g.V.Volume.files c.args.volume.now) (ends_file c.args.self.now)) (c.requires.stands told).at_rest s.opened s.size _ _ (ap (λ (f : Files). get f (body_file c.args.self.now)) same ∙ body) c.requires.unsealed
    (ap (λ (f : Files). get f (ends_file c.args.self.now)) same ∙ numbers-there g here told)
    (λ left i. numbers_stand _ _ _ _ s _ _ (numbers-left g before told) left (unmoved _ _ _ _ _ (c.append_synced.ensures.still is_memory) (c.append_synced.ensures.crash t2) left i))

pub write_synced-requires-clause-exists : goal.write_synced-requires-clause-exists
write_synced-requires-clause-exists g c told3 =
    let told : IsTrue (g.V.Volume.tells c.args.volume.now) = subst IsTrue (c.append_synced.ensures.stays.tells ∙ c.write_at.ensures.stays.tells ∙ c.sync.ensures.stays.tells) told3 in
    let there = ap (get (g.V.Volume.files c.append_synced.new.volume)) c.ends_file-ends.ensures ∙ mark-there g (goal.at.write_synced-requires-clause-exists g c).In_ok-append_synced told in
    subst (λ (o : Content). IsSome o) (sym there) refl

pub write_synced-requires-clause-within : goal.write_synced-requires-clause-within
write_synced-requires-clause-within g c told3 =
    let told : IsTrue (g.V.Volume.tells c.args.volume.now) = subst IsTrue (c.append_synced.ensures.stays.tells ∙ c.write_at.ensures.stays.tells ∙ c.sync.ensures.stays.tells) told3 in
    let there = ap (get (g.V.Volume.files c.append_synced.new.volume)) c.ends_file-ends.ensures ∙ mark-there g (goal.at.write_synced-requires-clause-within g c).In_ok-append_synced told in
    omega (arith, ap (λ (o : Content). length (bytes_in o)) there, followed_long c.args.self.now (bytes_of (g.V.Volume.files c.args.volume.now) (body_file c.args.self.now)) (bytes_of (g.V.Volume.files c.args.volume.now) (ends_file c.args.self.now)) (c.requires.stands told).at_rest, c.requires.place)

pub returns-in_err-write_synced-clause-others : goal.returns-in_err-write_synced-clause-others
returns-in_err-write_synced-clause-others g c told = (gate-read g (goal.at.returns-in_err-write_synced-clause-others g c).After-write_synced told).others

pub returns-in_err-write_synced-clause-reads : goal.returns-in_err-write_synced-clause-reads
returns-in_err-write_synced-clause-reads g c told = opening_fine _ _ _ (c.requires.stands told).at_rest c.requires.unsealed _ _ (gate-read g (goal.at.returns-in_err-write_synced-clause-reads g c).After-write_synced told)

pub returns-in_err-write_synced-clause-leaves : goal.returns-in_err-write_synced-clause-leaves
returns-in_err-write_synced-clause-leaves g c told = (gate-left g (goal.at.returns-in_err-write_synced-clause-leaves g c).After-write_synced told).passes

pub returns-in_err-write_synced-clause-body_first : goal.returns-in_err-write_synced-clause-body_first
returns-in_err-write_synced-clause-body_first g c told = inr (opening_whole _ _ _ _ (c.requires.stands told) _ _ (gate-left g (goal.at.returns-in_err-write_synced-clause-body_first g c).After-write_synced told))

pub returns-clause-ends : goal.returns-clause-ends
returns-clause-ends g c told =
    let t3 : IsTrue (g.V.Volume.tells c.append_synced.new.volume) = rw (c.append_synced.ensures.stays.tells, c.write_at.ensures.stays.tells, c.sync.ensures.stays.tells) told in
    written_file _ _ (ends_file c.args.self.now) (13 * c.args.self.now.marks + 12) (1 ∷ []) _ (mark-there g (goal.at.returns-clause-ends g c).In_ok-append_synced told)
    (rw (c.ends_file-ends.ensures, c.requires.place) at c.in_ok-write_synced.ensures.written t3)
    ∙ ap (λ (l : List ℕ). Some l) (opened_is c.args.self.now (bytes_of (g.V.Volume.files c.args.volume.now) (body_file c.args.self.now)) (bytes_of (g.V.Volume.files c.args.volume.now) (ends_file c.args.self.now)) (c.requires.stands told).at_rest)

pub returns-clause-others : goal.returns-clause-others
returns-clause-others g c told = (gate-read g (goal.at.returns-clause-others g c).After-write_synced told).others

pub returns-clause-reads : goal.returns-clause-reads
returns-clause-reads g c told = opening_fine _ _ _ (c.requires.stands told).at_rest c.requires.unsealed _ _ (gate-read g (goal.at.returns-clause-reads g c).After-write_synced told)

pub returns-clause-leaves : goal.returns-clause-leaves
returns-clause-leaves g c told = (gate-left g (goal.at.returns-clause-leaves g c).After-write_synced told).passes

pub returns-clause-body_first : goal.returns-clause-body_first
returns-clause-body_first g c told = inr (opening_whole _ _ _ _ (c.requires.stands told) _ _ (gate-left g (goal.at.returns-clause-body_first g c).After-write_synced told))

pub returns-clause-durable : goal.returns-clause-durable
returns-clause-durable g c told =
    let here = (goal.at.returns-clause-durable g c).After-write_synced in
    let t3 : IsTrue (g.V.Volume.tells c.append_synced.new.volume) = rw (c.append_synced.ensures.stays.tells, c.write_at.ensures.stays.tells, c.sync.ensures.stays.tells) told in
    record {
      body = λ left i. opening_whole _ _ _ _ (c.requires.stands told) _ _ (gate-left g here told) left i ∙ sym ((gate-read g here told).others (body_file c.args.self.now) (files_apart c.args.self.now.file));
      ends = rw c.ends_file-ends.ensures at c.in_ok-write_synced.ensures.durable t3;
    }
