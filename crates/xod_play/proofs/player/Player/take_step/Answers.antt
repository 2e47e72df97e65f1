use Rattle.std.proofs.Common.{ap, refl, sym, ◌∙◌}
use Rattle.xod_play.specs.Follows.{has_given_up}
use Rattle.xod_play.specs.Players.{is_turn}
use Rattle.xod_play.proofs.PlayerLemmas.{cant-prepared, cant-turn, turns-prepared}
use Rattle.xod_play.proofs.player.Player.take_step.Goals as goal

pub returns-then-not-is_turn-clause-turns : goal.returns-then-not-is_turn-clause-turns
returns-then-not-is_turn-clause-turns g c =
    let space = g.S.Space.view c.args.space.now in
    let before = record c.args.self.now { session = c.prepare.new.self } in
    let plays = c.prepare.ensures.plays _ c.requires.part.plays in
    cant-prepared g.O.Local.tells g.O.Local.txn g.O.Local.faults space space c.args.self.now before before c.args.wanted (record { name = refl; session = c.prepare.ensures.prepares.same }) refl
    (cant-turn g.O.Local.tells g.O.Local.txn g.O.Local.faults space before plays c.requires.going space before c.args.wanted (record { name = refl; session = record { actor = refl; script = refl } })
    (record { plays = plays; gave = c.requires.part.gave ∙ ap (has_given_up space.journal) (sym c.prepare.ensures.prepares.same.actor) }) refl c.requires.steps
    (ap (λ n. is_turn n c.args.wanted) (sym c.next.ensures) ∙ sym c.is_turn.ensures ∙ c.if-not-is_turn.true))

pub step-requires-clause-plays : goal.step-requires-clause-plays
step-requires-clause-plays g c = c.prepare.ensures.plays _ c.requires.part.plays

pub step-requires-clause-calm : goal.step-requires-clause-calm
step-requires-clause-calm g c = ap (has_given_up (g.S.Space.view c.args.space.now).journal) c.prepare.ensures.prepares.same.actor ∙ sym c.requires.part.gave ∙ c.requires.going

pub returns-clause-turns : goal.returns-clause-turns
returns-clause-turns g c =
    turns-prepared g.O.Local.tells g.O.Local.txn g.O.Local.faults (g.S.Space.view c.args.space.now) (g.S.Space.view c.step.new.space) c.args.self.now (record c.args.self.now { session = c.prepare.new.self }) c.step.new.self c.args.wanted
    (record { name = refl; session = c.prepare.ensures.prepares.same }) refl c.step.result c.step.ensures.turns
