use Rattle.std.proofs.Common.{sym, ◌∙◌, arith}
use Rattle.std.specs.Prelude.{IsTrue}
use Rattle.xod_log.specs.Ends.{body_of, ends_of}
use Rattle.xod_recover.specs.Found.{newest_of}
use Rattle.xod_recover.specs.Stores.{stored_in}
use Rattle.xod_recover.specs.Tails.{IsFoundIn}
use Rattle.xod_recover.specs.Writes.{Writes}
use Rattle.xod_recover.proofs.CutKeeps.{near_found}
use Rattle.xod_recover.proofs.Writing.{stores-passes, writes-then, wrote-then}
use Rattle.xod_recover.proofs.reopen.cut_off.Given.{Over}
use Rattle.xod_recover.proofs.reopen.cut_off.Goals.{In_ok-clear_all, After-cut_tail}
use Rattle.xod_recover.proofs.reopen.cut_off.Goals as goal

still : (g : Over) (c : In_ok-clear_all g) → IsTrue (g.V.Volume.tells c.clear_all.new.volume) → IsFoundIn (newest_of c.args.found.now) (g.V.Volume.files c.clear_all.new.volume)
still g c told = c.in_ok-clear_all.ensures.wrote.found (sym c.clear_all.ensures.writes.stays.tells ∙ told)

-- the second part alone
cut-writes : (g : Over) (c : After-cut_tail g) → Writes g.V.Volume.tells g.V.Volume.files g.V.Volume.moment g.V.Volume.may_leave g.V.Volume.leases g.V.Volume.refs g.V.Volume.faults (newest_of c.args.found.now) c.clear_all.new.volume c.cut_tail.new.volume
cut-writes g c = record {
  stays = c.cut_tail.ensures.stays;
  keeps = c.cut_tail.ensures.keeps;
  kept = λ told image. c.cut_tail.ensures.kept told;
  crash = λ told near. c.cut_tail.ensures.crash told (near_found (newest_of c.args.found.now) _ _ near);
}

pub cut_tail-requires-clause-was_found : goal.cut_tail-requires-clause-was_found
cut_tail-requires-clause-was_found g c told = still g (goal.at.cut_tail-requires-clause-was_found g c).In_ok-clear_all told

pub returns-in_err-cut_tail-clause-writes : goal.returns-in_err-cut_tail-clause-writes
returns-in_err-cut_tail-clause-writes g c = writes-then c.clear_all.ensures.writes c.in_ok-clear_all.ensures.near (cut-writes g (goal.at.returns-in_err-cut_tail-clause-writes g c).After-cut_tail)

pub returns-clause-writes : goal.returns-clause-writes
returns-clause-writes g c = writes-then c.clear_all.ensures.writes c.in_ok-clear_all.ensures.near (cut-writes g (goal.at.returns-clause-writes g c).After-cut_tail)

pub returns-clause-wrote : goal.returns-clause-wrote
returns-clause-wrote g c = wrote-then c.clear_all.ensures.writes c.in_ok-clear_all.ensures.wrote (record {
  found = c.in_ok-cut_tail.ensures.still_found;
  settled = c.in_ok-cut_tail.ensures.settled;
  unfailed = c.in_ok-cut_tail.ensures.unfailed;
})

pub returns-clause-emptied : goal.returns-clause-emptied
returns-clause-emptied g c told other gt low body ends =
    let told1 : IsTrue (g.V.Volume.tells c.clear_all.new.volume) = c.clear_all.ensures.writes.stays.tells ∙ told in
    let is = c.in_ok-clear_all.ensures.emptied told other gt low body ends in
    record {
      body = c.cut_tail.ensures.others told1 (body_of other) (λ e. omega (arith, e, gt)) (λ e. omega (arith, e, gt)) ∙ is.body;
      ends = c.cut_tail.ensures.others told1 (ends_of other) (λ e. omega (arith, e, gt)) (λ e. omega (arith, e, gt)) ∙ is.ends;
    }

-- ---- where images may use the next log file

pub returns-in_err-cut_tail-clause-crash_next : goal.returns-in_err-cut_tail-clause-crash_next
returns-in_err-cut_tail-clause-crash_next g c told may =
    stores-passes _ _ _ _ _ _ (stored_in (g.V.Volume.files c.args.volume.now)) (stored_in (g.V.Volume.files c.clear_all.new.volume)) (c.clear_all.ensures.writes.keeps told).stored
    (c.clear_all.ensures.crash_next told may) ((cut-writes g (goal.at.returns-in_err-cut_tail-clause-crash_next g c).After-cut_tail).crash (c.clear_all.ensures.writes.stays.tells ∙ told) (c.in_ok-clear_all.ensures.as_found told may))

pub returns-clause-crash_next : goal.returns-clause-crash_next
returns-clause-crash_next g c told may =
    stores-passes _ _ _ _ _ _ (stored_in (g.V.Volume.files c.args.volume.now)) (stored_in (g.V.Volume.files c.clear_all.new.volume)) (c.clear_all.ensures.writes.keeps told).stored
    (c.clear_all.ensures.crash_next told may) ((cut-writes g (goal.at.returns-clause-crash_next g c).After-cut_tail).crash (c.clear_all.ensures.writes.stays.tells ∙ told) (c.in_ok-clear_all.ensures.as_found told may))

pub returns-clause-stored_next : goal.returns-clause-stored_next
returns-clause-stored_next g c told may left i =
    c.in_ok-cut_tail.ensures.stored (c.clear_all.ensures.writes.stays.tells ∙ told) (near_found (newest_of c.args.found.now) _ _ (c.in_ok-clear_all.ensures.as_found told may)) left i
    ∙ (c.clear_all.ensures.writes.keeps told).stored
