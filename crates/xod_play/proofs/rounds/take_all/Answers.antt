use Rattle.std.proofs.Common.{arith}
use Rattle.xod_play.proofs.CauseLemmas.{keeps-all, keeps-on}
use Rattle.xod_play.proofs.ReplayLemmas.{all-taken, none-taken, one-taken, stuck-there}
use Rattle.xod_play.proofs.rounds.take_all.Goals as goal

pub loop-at-init : goal.loop-at-init
loop-at-init g c = record {
  taken = none-taken g.O.Local.tells g.O.Local.txn g.O.Local.faults (g.S.Space.view c.args.space.now) c.args.players.now c.args.order.now c.requires.sit c.requires.begun;
  keeps = keeps-all (g.S.Space.view c.args.space.now);
}

pub loop-at-preserved : goal.loop-at-preserved
loop-at-preserved g c = record {
  taken = one-taken g.O.Local.tells g.O.Local.txn g.O.Local.faults (g.S.Space.view c.loop-at.space) (g.S.Space.view c.take_item.new.space) c.loop-at.players c.take_item.new.players _ c.args.order.now c.loop-at.at c.index-order-at.result c.loop-at-test.true c.index-order-at.is
      c.loop-at.invariant.taken c.take_item.ensures.keeps c.if-not-take_item.ensures.turns;
  keeps = keeps-on _ (g.S.Space.view c.loop-at.space) _ c.loop-at.invariant.keeps c.take_item.ensures.keeps;
}

pub returns-then-not-take_item-clause-takes : goal.returns-then-not-take_item-clause-takes
returns-then-not-take_item-clause-takes g c =
    stuck-there g.O.Local.tells g.O.Local.txn g.O.Local.faults (g.S.Space.view c.loop-at.space) (g.S.Space.view c.take_item.new.space) c.loop-at.players c.take_item.new.players _ c.args.order.now c.loop-at.at c.index-order-at.result c.loop-at-test.true c.index-order-at.is
    c.loop-at.invariant.taken c.take_item.ensures.keeps (g.met.S.Space.lawful c.loop-at.space) c.sessions_make_a_world.ensures c.items_make_a_journal.ensures c.if-not-take_item.ensures.turns

pub returns-then-not-take_item-clause-keeps : goal.returns-then-not-take_item-clause-keeps
returns-then-not-take_item-clause-keeps g c = keeps-on _ (g.S.Space.view c.loop-at.space) _ c.loop-at.invariant.keeps c.take_item.ensures.keeps

pub returns-clause-takes : goal.returns-clause-takes
returns-clause-takes g c =
    all-taken g.O.Local.tells g.O.Local.txn g.O.Local.faults (g.S.Space.view c.loop-at.space) c.loop-at.players _ c.args.order.now c.loop-at.at c.loop-at.invariant.taken (omega (arith, c.loop-at-test.false))
