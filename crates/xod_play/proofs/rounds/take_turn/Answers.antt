use Rattle.std.proofs.Common.{sym, ◌∙◌}
use Rattle.xod_play.proofs.RoundLemmas.{turns-item, unnamed-item}
use Rattle.xod_play.proofs.SeatedLemmas.{fresh-at, named-at}
use Rattle.xod_play.proofs.rounds.take_turn.Goals as goal

pub returns-in_default-clause-turns : goal.returns-in_default-clause-turns
returns-in_default-clause-turns g c =
    unnamed-item g.O.Local.tells g.O.Local.txn g.O.Local.faults (g.S.Space.view c.args.space.now) c.args.players.now c.requires.part _ _ (sym c.place_of.ensures.place ∙ c.in_default.is)

pub take-requires : goal.take-requires
take-requires g c =
    let named = named-at g.O.Local.tells g.O.Local.txn g.O.Local.faults 1 (g.S.Space.view c.args.space.now) c.args.players.now c.requires.part _ c.in-Some.at _ (sym c.place_of.ensures.place ∙ c.in-Some.is) in
    record { part = named.seated.part; fresh = fresh-at c.args.players.now c.in-Some.at _ named.within c.requires.fresh }

pub returns-clause-turns : goal.returns-clause-turns
returns-clause-turns g c =
    turns-item g.O.Local.tells g.O.Local.txn g.O.Local.faults (g.S.Space.view c.args.space.now) (g.S.Space.view c.take.new.space) (g.met.S.Space.lawful c.args.space.now) (g.met.S.Space.lawful c.take.new.space) c.take.ensures.keeps
    c.sessions_make_a_world.ensures c.items_make_a_journal.ensures c.same_is_equal.ensures c.args.players.now c.requires
    _ c.in-Some.at c.index-players-at.result (sym c.place_of.ensures.place ∙ c.in-Some.is) c.take.new.self _ c.take.result c.take.ensures.turns
