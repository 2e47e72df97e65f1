use Rattle.std.proofs.Common.{get_or, refl, sym, ◌∙◌, arith}
use Rattle.xod_recover.proofs.Neighbours.{emptied-now}
use Rattle.xod_recover.proofs.OnlyReading.{reads-none}
use Rattle.xod_recover.proofs.Writing.{writes-reads, wrote-reads, writes-then, wrote-then}
use Rattle.xod_recover.proofs.emptying.clear_listed.Goals as goal

pub loop-index-init : goal.loop-index-init
loop-index-init g c = record {
  writes = writes-reads c.requires.was_found reads-none;
  wrote = wrote-reads {leases = g.V.Volume.leases} {refs = g.V.Volume.refs} c.requires.was_found reads-none refl;
  near = λ told near. near;
  stay_empty = λ told file empty. empty;
  emptied = λ told index lt. absurd (omega (arith, lt));
}

pub clear_pair-requires-clause-listed : goal.clear_pair-requires-clause-listed
clear_pair-requires-clause-listed g c told place within =
    let before = sym c.loop-index.invariant.writes.stays.tells ∙ told in
    (c.loop-index.invariant.writes.keeps before).there (get_or c.args.numbers.now place 0) ∙ c.requires.listed before place within

pub clear_pair-requires-clause-was_found : goal.clear_pair-requires-clause-was_found
clear_pair-requires-clause-was_found g c told = c.loop-index.invariant.wrote.found (sym c.loop-index.invariant.writes.stays.tells ∙ told)

pub loop-index-preserved : goal.loop-index-preserved
loop-index-preserved g c = record {
  writes = writes-then c.loop-index.invariant.writes c.loop-index.invariant.near c.clear_pair.ensures.writes;
  wrote = wrote-then c.loop-index.invariant.writes c.loop-index.invariant.wrote c.in_ok-clear_pair.ensures.wrote;
  near = λ told near. c.in_ok-clear_pair.ensures.near (c.loop-index.invariant.writes.stays.tells ∙ told) (c.loop-index.invariant.near told near);
  stay_empty = λ told file empty. c.in_ok-clear_pair.ensures.stay_empty (c.loop-index.invariant.writes.stays.tells ∙ told) file (c.loop-index.invariant.stay_empty told file empty);
  emptied = λ told index lt other at.
      let now = c.loop-index.invariant.writes.stays.tells ∙ told in
      emptied-now c.args.numbers.now c.args.above _ _ (c.in_ok-clear_pair.ensures.stay_empty now) c.loop-index.index (c.loop-index.invariant.emptied told) (c.in_ok-clear_pair.ensures.emptied now) index (omega (arith, lt)) other at;
}

pub returns-in_err-clear_pair-clause-writes : goal.returns-in_err-clear_pair-clause-writes
returns-in_err-clear_pair-clause-writes g c = writes-then c.loop-index.invariant.writes c.loop-index.invariant.near c.clear_pair.ensures.writes

pub returns-clause-emptied : goal.returns-clause-emptied
returns-clause-emptied g c told index lt = c.loop-index.invariant.emptied told index (omega (arith, lt))
