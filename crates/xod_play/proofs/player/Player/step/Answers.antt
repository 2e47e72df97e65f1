use Rattle.std.proofs.Common.{refl}
use Rattle.xod_play.proofs.PlayerLemmas.{cant-begin, took-stepped, took-stopped}
use Rattle.xod_play.proofs.player.Player.step.Goals as goal

pub returns-in-Stepped-clause-turns : goal.returns-in-Stepped-clause-turns
returns-in-Stepped-clause-turns g c =
    took-stepped g.O.Local.tells g.O.Local.txn g.O.Local.faults (g.S.Space.view c.args.space.now) _ c.in-Stepped.ensures.keeps c.args.self.now _ c.args.wanted
    c.requires.plays (record { name = refl; session = c.in-Stepped.ensures.same }) c.in-Stepped.ensures.plays c.requires.going c.requires.calm c.requires.going c.in-Stepped.ensures.came c.requires.next

pub returns-in-Stopped-clause-turns : goal.returns-in-Stopped-clause-turns
returns-in-Stopped-clause-turns g c =
    took-stopped g.O.Local.tells g.O.Local.txn g.O.Local.faults (g.S.Space.view c.args.space.now) _ c.in-Stopped.ensures.keeps c.args.self.now _ c.args.wanted
    c.requires.plays (record { name = refl; session = c.in-Stopped.ensures.same }) c.in-Stopped.ensures.plays c.requires.going c.requires.calm c.in-Stopped.line c.in-Stopped.cause refl c.in-Stopped.ensures.came c.requires.next

pub returns-in-Busy-clause-turns : goal.returns-in-Busy-clause-turns
returns-in-Busy-clause-turns g c =
    cant-begin g.O.Local.tells g.O.Local.txn g.O.Local.faults (g.S.Space.view c.args.space.now) c.args.self.now c.requires.plays c.requires.going _ _ c.args.wanted c.in-Busy.holder
    (record { name = refl; session = c.in-Busy.ensures.same }) c.in-Busy.ensures.plays c.requires.going c.requires.calm c.in-Busy.ensures.came c.requires.next
