use Rattle.std.proofs.Common.{refl, sym, subst, ◌∙◌}
use Rattle.std.proofs.lemmas.List.{nil_from_length}
use Rattle.xod_play.specs.Rounds.{AllTakePart}
use Rattle.xod_play.proofs.CauseLemmas.{keeps-all}
use Rattle.xod_play.proofs.FinishLemmas.{all-ended, leaves-none, one-ended, shut-first}
use Rattle.xod_play.proofs.SeatedLemmas.{part-pop}
use Rattle.xod_play.proofs.finish.finish_all.Goals as goal

pub loop-player-init : goal.loop-player-init
loop-player-init g c = record {
  part = c.requires.part;
  shut = shut-first (g.S.Space.view c.args.space.now) c.args.players.items (g.met.S.Space.lawful c.args.space.now) c.requires.own;
  leaves = leaves-none (g.S.Space.view c.args.space.now).journal;
  none = λ closed. (closed, refl);
  keeps = keeps-all (g.S.Space.view c.args.space.now);
}

pub finish-text-requires : goal.finish-text-requires
finish-text-requires g c =
    let space = g.S.Space.view c.loop-player.space in
    (part-pop g.O.Local.tells g.O.Local.txn g.O.Local.faults 1 space c.pop.new.self.items c.in-Some.player
    (subst (λ l. AllTakePart g.O.Local.tells g.O.Local.txn g.O.Local.faults 1 space l) c.in-Some.ensures.items c.loop-player.invariant.part)).1.part.plays

pub loop-player-preserved : goal.loop-player-preserved
loop-player-preserved g c =
    let space = g.S.Space.view c.loop-player.space in
    let parts = part-pop g.O.Local.tells g.O.Local.txn g.O.Local.faults 1 space c.pop.new.self.items c.in-Some.player
    (subst (λ l. AllTakePart g.O.Local.tells g.O.Local.txn g.O.Local.faults 1 space l) c.in-Some.ensures.items c.loop-player.invariant.part) in
    one-ended g.O.Local.tells g.O.Local.txn g.O.Local.faults space (g.S.Space.view c.finish-text.new.space) c.in-Some.player.session parts.1.part.plays c.finish-text.ensures.finishes c.finish-text.ensures.keeps (g.met.S.Space.lawful c.finish-text.new.space)
    (g.S.Space.view c.args.space.now) c.args.players.items c.loop-player.players.items c.pop.new.self.items c.in-Some.player refl c.in-Some.ensures.items c.loop-player.invariant

pub returns-clause-finished : goal.returns-clause-finished
returns-clause-finished g c =
    all-ended g.O.Local.tells g.O.Local.txn g.O.Local.faults (g.S.Space.view c.args.space.now) (g.S.Space.view c.loop-player.space) c.args.players.items c.loop-player.players.items (g.met.S.Space.lawful c.loop-player.space) c.requires.part
    (nil_from_length c.loop-player.players.items (sym c.loop-player.players.ok.0 ∙ c.in_default.ensures.cases.0)) c.loop-player.invariant
