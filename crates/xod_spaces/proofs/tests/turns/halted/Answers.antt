use Rattle.std.proofs.Common.{◌≡◌, ◌∙◌, Bool, false, true, refl, sym}
use Rattle.std.specs.Prelude.{◌&&◌, not}
use Rattle.std.proofs.lemmas.Bool.{false≢true}
use Rattle.xod_session.proofs.CallerLemmas.{halt-grows, prepared-answered}
use Rattle.xod_session.specs.Calls.{front_of}
use Rattle.xod_spaces.proofs.PairLemmas.{turned, unmet}
use Rattle.xod_spaces.proofs.tests.turns.halted.Goals as goal

going : (stopped can : Bool) → (not stopped && can) ≡ true → stopped ≡ false
going true can e = absurd (false≢true e)
going false can e = refl

pub halt-requires : goal.halt-requires
halt-requires g c =
    let new = c.prepare.new.self in
    let prepares = c.prepare.ensures.prepares in
    let can = sym c.can_halt-2.ensures ∙ c.if-not-can_halt-2.false in
    record {
      plays = c.prepare.ensures.plays _ c.requires.both.mine_plays;
      can = can;
      answered = prepared-answered c.args.line c.args.mine.now new c.requires.both.mine_plays.course c.requires.fresh (sym prepares.stopped ∙ going _ _ can)
          (unmet new.course.place.stopped (front_of new.course) new.met c.next.result c.next.ensures c.in_default.not-Stop c.in_default.not-Finished) prepares;
    }

pub returns : goal.returns
returns g c =
    let old = g.S.Space.view c.args.space.now in
    let new = g.S.Space.view c.halt.new.space in
    let halt = c.halt.ensures in
    turned g.O.Local.tells g.O.Local.txn g.O.Local.faults old new (g.met.S.Space.lawful c.halt.new.space) halt.keeps c.args.mine.now c.prepare.new.self c.halt.new.self c.args.other.now c.requires.both
    c.prepare.ensures.prepares.same.actor halt.halts.same.actor halt.plays (halt-grows old new c.prepare.new.self c.halt.new.self _ halt.halts)
