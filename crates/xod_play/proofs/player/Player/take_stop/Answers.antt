use Rattle.std.proofs.Common.{ap, refl, sym, ◌∙◌}
use Rattle.xod_play.specs.Follows.{has_given_up}
use Rattle.xod_play.proofs.PlayerLemmas.{cant-stop, halt-ready, is_next_stop, no-next-stop, took-halted, took-prepared, turns-prepared}
use Rattle.xod_play.proofs.player.Player.take_stop.Goals as goal

pub returns-then-not-can_halt-clause-turns : goal.returns-then-not-can_halt-clause-turns
returns-then-not-can_halt-clause-turns g c =
    let space = g.S.Space.view c.args.space.now in
    cant-stop g.O.Local.tells g.O.Local.txn g.O.Local.faults space c.args.self.now c.requires.sits.part.plays c.requires.going space c.args.self.now c.args.line c.args.cause
    (record { name = refl; session = record { actor = refl; script = refl } }) c.requires.sits.part refl (sym c.can_halt.ensures ∙ c.if-not-can_halt.true)

pub step-requires-clause-plays : goal.step-requires-clause-plays
step-requires-clause-plays g c = c.prepare.ensures.plays _ c.requires.sits.part.plays

pub step-requires-clause-calm : goal.step-requires-clause-calm
step-requires-clause-calm g c = ap (has_given_up (g.S.Space.view c.args.space.now).journal) c.prepare.ensures.prepares.same.actor ∙ sym c.requires.sits.part.gave ∙ c.requires.going

pub halt-requires : goal.halt-requires
halt-requires g c =
    let plays = c.prepare.ensures.plays _ c.requires.sits.part.plays in
    let ready = halt-ready c.args.self.now.session c.prepare.new.self c.args.line c.requires.sits.part.plays.course plays.course c.requires.sits.fresh
    (sym c.can_halt.ensures ∙ c.if-not-can_halt.false) c.prepare.ensures.prepares (ap is_next_stop (sym c.next.ensures) ∙ no-next-stop c.next.result c.in_default.not-Stop) in
    record { plays = plays; can = ready.can; answered = ready.answered }

pub returns : goal.returns
returns g c =
    let old = g.S.Space.view c.args.space.now in
    let before = record c.args.self.now { session = c.prepare.new.self } in
    record {
      turns = took-prepared g.O.Local.tells g.O.Local.txn g.O.Local.faults old _ c.args.self.now before _ _ (record { name = refl; session = c.prepare.ensures.prepares.same }) refl
          (took-halted g.O.Local.tells g.O.Local.txn g.O.Local.faults old _ c.halt.ensures.keeps before _ _ (c.prepare.ensures.plays _ c.requires.sits.part.plays)
          (record { name = refl; session = c.halt.ensures.halts.same }) c.halt.ensures.plays c.requires.going (ap (has_given_up old.journal) c.prepare.ensures.prepares.same.actor ∙ sym c.requires.sits.part.gave ∙ c.requires.going)
          c.args.line c.args.cause c.requires.going c.halt.ensures.halts refl);
      keeps = c.halt.ensures.keeps;
    }

pub returns-in-Stop-clause-turns : goal.returns-in-Stop-clause-turns
returns-in-Stop-clause-turns g c =
    turns-prepared g.O.Local.tells g.O.Local.txn g.O.Local.faults (g.S.Space.view c.args.space.now) (g.S.Space.view c.step.new.space) c.args.self.now (record c.args.self.now { session = c.prepare.new.self }) c.step.new.self _
    (record { name = refl; session = c.prepare.ensures.prepares.same }) refl c.step.result c.step.ensures.turns
