use Rattle.std.proofs.Common.{sym, ◌∙◌}
use Rattle.xod_play.proofs.ReplayLemmas.{out-of, stuck-of}
use Rattle.xod_play.proofs.rounds.replay.Goals as goal

pub returns : goal.returns
returns g c = record {
  replays = stuck-of g.O.Local.tells g.O.Local.txn g.O.Local.faults (g.S.Space.view c.take_all.new.space) c.take_all.new.players _ c.args.order.now c.in_default.ensures.takes
      (g.met.S.Space.lawful c.take_all.new.space) c.sessions_make_a_world.ensures c.items_make_a_journal.ensures (sym c.are_done.ensures ∙ c.if-are_done.false);
  keeps = c.take_all.ensures.keeps;
}

pub returns-then-are_done-clause-replays : goal.returns-then-are_done-clause-replays
returns-then-are_done-clause-replays g c =
    out-of g.O.Local.tells g.O.Local.txn g.O.Local.faults (g.S.Space.view c.take_all.new.space) c.take_all.new.players _ _ c.in_default.ensures.takes
    (g.met.S.Space.lawful c.take_all.new.space) c.sessions_make_a_world.ensures c.items_make_a_journal.ensures (sym c.are_done.ensures ∙ c.if-are_done.true)
