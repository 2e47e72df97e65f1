use Rattle.std.proofs.Common.{rules, ◌≡◌, suc, Ok, ◌∙◌, ap, arith, subst}
use Rattle.std.specs.Prelude.{IsTrue}
use Rattle.xod_recover.specs.Check.{Newest, check}
use Rattle.xod_recover.specs.Found.{newest_of}
use Rattle.xod_recover.specs.Images.{Stores, UnusedFrom}
use Rattle.xod_recover.specs.Reads.{OnlyReads}
use Rattle.xod_recover.specs.Stores.{stored_in}
use Rattle.xod_recover.specs.Tails.{IsFoundIn, MayUseNext}
use Rattle.xod_recover.specs.Writes.{Writes, Wrote}
use Rattle.xod_recover.proofs.OnlyReading.{reads-on, reads-then}
use Rattle.xod_recover.proofs.Recovering.{is-found, recovers-reads, recovers-writes, same-newest}
use Rattle.xod_recover.proofs.Reopening.{above-from, ends-root, fresh-from, not-used}
use Rattle.xod_recover.proofs.Writing.{reads-may, reads-near, reads-passes, reads-settled, stores-passes, writes-reads, wrote-reads, writes-then, wrote-then}
use Rattle.xod_volume.specs.Crash.{Passes}
use Rattle.xod_recover.proofs.reopen.recover.Given.{Over}
use Rattle.xod_recover.proofs.reopen.recover.Goals.{In_ok-found, After-cut_off, In_ok-cut_off}
use Rattle.xod_recover.proofs.reopen.recover.Goals as goal

-- ---- nothing is written

-- the check of the files as the reads left them
decided : (g : Over) (c : In_ok-found g) → IsTrue (g.V.Volume.tells c.args.volume.now) → check (g.V.Volume.files c.find_newest.new.volume) ≡ Ok (newest_of c.in_ok-found.found)
decided g c told = ap check (c.find_newest.ensures.reads.same told) ∙ c.in_ok-found.ensures.found told

above : (g : Over) (c : In_ok-found g) → IsTrue (g.V.Volume.tells c.args.volume.now) → UnusedFrom (suc c.in_ok-found.found.file) (g.V.Volume.files c.find_newest.new.volume)
above g c told = above-from _ (newest_of c.in_ok-found.found) (decided g c told)

pub returns-in_err-found-clause-memory_settled : goal.returns-in_err-found-clause-memory_settled
returns-in_err-found-clause-memory_settled g c told settled e = reads-settled c.find_newest.ensures.reads told settled

pub returns-in_err-found-clause-recovers : goal.returns-in_err-found-clause-recovers
returns-in_err-found-clause-recovers g c = recovers-reads c.find_newest.ensures.reads

pub returns-then-found-eq0-clause-fresh : goal.returns-then-found-eq0-clause-fresh
returns-then-found-eq0-clause-fresh g c told none = fresh-from _ (newest_of c.in_ok-found.found) (decided g (goal.at.returns-then-found-eq0-clause-fresh g c).In_ok-found told) none

pub returns-then-found-eq0-clause-unused : goal.returns-then-found-eq0-clause-unused
returns-then-found-eq0-clause-unused g c told none file low used = not-used _ (fresh-from _ (newest_of c.in_ok-found.found) (decided g (goal.at.returns-then-found-eq0-clause-unused g c).In_ok-found told) none) file low used

pub returns-then-found-eq0-clause-nothing_above : goal.returns-then-found-eq0-clause-nothing_above
returns-then-found-eq0-clause-nothing_above g c told = above g (goal.at.returns-then-found-eq0-clause-nothing_above g c).In_ok-found told

pub returns-then-found-eq0-clause-nothing_above_in_images : goal.returns-then-found-eq0-clause-nothing_above_in_images
returns-then-found-eq0-clause-nothing_above_in_images g c told settled left i =
    (reads-settled c.find_newest.ensures.reads told settled).above left i (suc c.in_ok-found.found.file) (omega arith) (above g (goal.at.returns-then-found-eq0-clause-nothing_above_in_images g c).In_ok-found told)

pub returns-then-found-eq0-clause-settled : goal.returns-then-found-eq0-clause-settled
returns-then-found-eq0-clause-settled g c told settled = reads-settled c.find_newest.ensures.reads told settled

pub returns-then-found-eq0-clause-recovers : goal.returns-then-found-eq0-clause-recovers
returns-then-found-eq0-clause-recovers g c = recovers-reads c.find_newest.ensures.reads

-- ---- what was found is cut off

found : (g : Over) (c : After-cut_off g) → IsTrue (g.V.Volume.tells c.args.volume.now) → IsFoundIn (newest_of c.in_ok-found.found) (g.V.Volume.files c.args.volume.now)
found g c told = is-found _ c.in_ok-found.found (omega (arith, c.if-found-eq0.false)) c.in_ok-found.ensures.rooted (c.in_ok-found.ensures.found told) (c.in_ok-found.ensures.spelled told)

writes : (g : Over) (c : After-cut_off g) → Writes g.V.Volume.tells g.V.Volume.files g.V.Volume.moment g.V.Volume.may_leave g.V.Volume.leases g.V.Volume.refs g.V.Volume.faults (newest_of c.in_ok-found.found) c.args.volume.now c.cut_off.new.volume
writes g c = writes-then (writes-reads (found g c) c.find_newest.ensures.reads) (reads-near c.find_newest.ensures.reads) c.cut_off.ensures.writes

abbrev cut : (g : Over) → In_ok-cut_off g → After-cut_off g
cut g c = c.before.before

wrote : (g : Over) (c : In_ok-cut_off g) → Wrote g.V.Volume.tells g.V.Volume.files g.V.Volume.moment g.V.Volume.may_leave g.V.Volume.faults (newest_of c.in_ok-found.found) c.args.volume.now c.cut_off.new.volume
wrote g c =
    let first = found g (cut g c) in
    wrote-then (writes-reads first c.find_newest.ensures.reads) (wrote-reads first c.find_newest.ensures.reads c.in_ok-found.ensures.unfailed) c.in_ok-cut_off.ensures.wrote

above_cut : (g : Over) (c : After-cut_off g) → IsTrue (g.V.Volume.tells c.args.volume.now) → UnusedFrom (suc c.in_ok-found.found.file) (g.V.Volume.files c.cut_off.new.volume)
above_cut g c told = above-from _ (newest_of c.in_ok-found.found) (((writes g c).keeps told).decided ∙ c.in_ok-found.ensures.found told)

pub cut_off-requires-clause-was_found : goal.cut_off-requires-clause-was_found
cut_off-requires-clause-was_found g c = reads-on (IsFoundIn (newest_of c.in_ok-found.found)) c.find_newest.ensures.reads
    (λ told. is-found _ c.in_ok-found.found (omega (arith, c.if-found-eq0.false)) c.in_ok-found.ensures.rooted (c.in_ok-found.ensures.found told) (c.in_ok-found.ensures.spelled told))

pub returns-in_err-cut_off-clause-memory_settled : goal.returns-in_err-cut_off-clause-memory_settled
returns-in_err-cut_off-clause-memory_settled g c told settled e =
    let r : OnlyReads g.V.Volume.tells g.V.Volume.files g.V.Volume.moment g.V.Volume.may_leave g.V.Volume.leases g.V.Volume.refs g.V.Volume.faults c.find_newest.new.volume c.cut_off.new.volume = search rules in
    reads-settled (reads-then c.find_newest.ensures.reads r) told settled

pub returns-in_err-cut_off-clause-recovers : goal.returns-in_err-cut_off-clause-recovers
returns-in_err-cut_off-clause-recovers g c = let at = (goal.at.returns-in_err-cut_off-clause-recovers g c).After-cut_off in recovers-writes (newest_of c.in_ok-found.found) c.in_ok-found.ensures.found (found g at) (writes g at)

pub returns-clause-root : goal.returns-clause-root
returns-clause-root g c told some =
    let told1 : IsTrue (g.V.Volume.tells c.find_newest.new.volume) = c.find_newest.ensures.reads.stays.tells ∙ told in
    ends-root c.in_ok-found.found _ _ (c.in_ok-found.ensures.root told some) ((writes g (goal.at.returns-clause-root g c).After-cut_off).keeps told).front (c.in_ok-cut_off.ensures.opened told1).body_size

pub returns-clause-nothing_above : goal.returns-clause-nothing_above
returns-clause-nothing_above g c told = above_cut g (goal.at.returns-clause-nothing_above g c).After-cut_off told

pub returns-clause-nothing_above_in_images : goal.returns-clause-nothing_above_in_images
returns-clause-nothing_above_in_images g c told settled left i =
    let done = (goal.at.returns-clause-nothing_above_in_images g c).In_ok-cut_off in
    ((wrote g done).settled told settled).above left i (suc c.in_ok-found.found.file) (omega arith) (above_cut g (cut g done) told)

pub returns-clause-settled : goal.returns-clause-settled
returns-clause-settled g c told settled = (wrote g (goal.at.returns-clause-settled g c).In_ok-cut_off).settled told settled

pub returns-clause-recovers : goal.returns-clause-recovers
returns-clause-recovers g c = let at = (goal.at.returns-clause-recovers g c).After-cut_off in recovers-writes (newest_of c.in_ok-found.found) c.in_ok-found.ensures.found (found g at) (writes g at)

-- ---- where images may use the next log file

pub returns-in_err-found-clause-crash_next : goal.returns-in_err-found-clause-crash_next
returns-in_err-found-clause-crash_next g c told newest e may = reads-passes (stored_in (g.V.Volume.files c.args.volume.now)) c.find_newest.ensures.reads told

pub returns-then-found-eq0-clause-crash_next : goal.returns-then-found-eq0-clause-crash_next
returns-then-found-eq0-clause-crash_next g c told newest e may = reads-passes (stored_in (g.V.Volume.files c.args.volume.now)) c.find_newest.ensures.reads told

may-after : (g : Over) (c : After-cut_off g) (newest : Newest) → IsTrue (g.V.Volume.tells c.args.volume.now) → check (g.V.Volume.files c.args.volume.now) ≡ Ok newest
    → MayUseNext newest (g.V.Volume.files c.args.volume.now) (g.V.Volume.may_leave c.args.volume.now (g.V.Volume.moment c.args.volume.now))
    → MayUseNext (newest_of c.in_ok-found.found) (g.V.Volume.files c.find_newest.new.volume) (g.V.Volume.may_leave c.find_newest.new.volume (g.V.Volume.moment c.find_newest.new.volume))
may-after g c newest told e may = reads-may c.find_newest.ensures.reads told
    (subst (λ (n : Newest). MayUseNext n (g.V.Volume.files c.args.volume.now) (g.V.Volume.may_leave c.args.volume.now (g.V.Volume.moment c.args.volume.now))) (same-newest newest (newest_of c.in_ok-found.found) _ e (c.in_ok-found.ensures.found told)) may)

crash-next : (g : Over) (c : After-cut_off g) (newest : Newest) → IsTrue (g.V.Volume.tells c.args.volume.now) → check (g.V.Volume.files c.args.volume.now) ≡ Ok newest
    → MayUseNext newest (g.V.Volume.files c.args.volume.now) (g.V.Volume.may_leave c.args.volume.now (g.V.Volume.moment c.args.volume.now))
    → Passes (g.V.Volume.moment c.args.volume.now) (g.V.Volume.moment c.cut_off.new.volume) (g.V.Volume.may_leave c.args.volume.now) (g.V.Volume.may_leave c.cut_off.new.volume) (Stores (stored_in (g.V.Volume.files c.args.volume.now)))
crash-next g c newest told e may =
    stores-passes _ _ _ _ _ _ (stored_in (g.V.Volume.files c.args.volume.now)) (stored_in (g.V.Volume.files c.find_newest.new.volume)) (ap stored_in (c.find_newest.ensures.reads.same told))
    (reads-passes (stored_in (g.V.Volume.files c.args.volume.now)) c.find_newest.ensures.reads told) (c.cut_off.ensures.crash_next (c.find_newest.ensures.reads.stays.tells ∙ told) (may-after g c newest told e may))

pub returns-in_err-cut_off-clause-crash_next : goal.returns-in_err-cut_off-clause-crash_next
returns-in_err-cut_off-clause-crash_next g c told newest e may = crash-next g (goal.at.returns-in_err-cut_off-clause-crash_next g c).After-cut_off newest told e may

pub returns-clause-crash_next : goal.returns-clause-crash_next
returns-clause-crash_next g c told newest e may = crash-next g (goal.at.returns-clause-crash_next g c).After-cut_off newest told e may

pub returns-clause-stored_next : goal.returns-clause-stored_next
returns-clause-stored_next g c told some may left i =
    c.in_ok-cut_off.ensures.stored_next (c.find_newest.ensures.reads.stays.tells ∙ told) (may-after g (goal.at.returns-clause-stored_next g c).After-cut_off (newest_of c.in_ok-found.found) told (c.in_ok-found.ensures.found told) may) left i
    ∙ ap stored_in (c.find_newest.ensures.reads.same told)
