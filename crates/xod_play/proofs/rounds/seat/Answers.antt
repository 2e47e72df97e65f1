use Rattle.std.proofs.Common.{◌≡◌, ◌+◌, arith, length, sym, ap, subst, ◌∙◌, ◌++◌, ◌∷◌, []}
use Rattle.std.proofs.lemmas.Iterator.Adapters.{YieldsList-from_vec}
use Rattle.std.proofs.lemmas.Iterator.Consumers.{YieldsList-end}
use Rattle.std.proofs.lemmas.List.{length-map, length_push, map-append, map-id}
use Rattle.xod_play.specs.Players.{script_in}
use Rattle.xod_play.specs.Rounds.{AllSit, are_closed, scripts_in}
use Rattle.xod_play.proofs.FinishLemmas.{closed-push}
use Rattle.xod_play.proofs.SeatedLemmas.{fresh-push, part-push}
use Rattle.xod_play.proofs.rounds.seat.Goals as goal

pub loop-script-preserved : goal.loop-script-preserved
loop-script-preserved g c =
    let players = c.loop-script.players.items in
    let player = c.in-Ok.player in
    let pushed = c.push_reserved.ensures.items in
    let more = length_push c.loop-script.yielded c.in-Some.script in
    let counted = c.loop-script.invariant.counted in
    let room = c.loop-script.invariant.room in
    let number : 1 + length players ≡ c.loop-script.actor + 1 = omega (arith, counted, length-map players script_in, ap length c.loop-script.invariant.scripts) in
    record {
      can_next = tt;
      is_finite = tt;
      counted = omega (arith, more, counted);
      room = omega (arith, room, c.push_reserved.ensures.capacity);
      sit = λ space empty enough.
          let sits = c.in-Ok.ensures.sits space empty (omega arith) (omega (arith, more, counted, enough)) in
          let before = c.loop-script.invariant.sit space empty (omega (arith, more, enough)) in
          subst (AllSit g.O.Local.tells g.O.Local.txn g.O.Local.faults 1 space) (sym pushed) (record {
            part = part-push g.O.Local.tells g.O.Local.txn g.O.Local.faults 1 space players player before.part (record { actor = c.in-Ok.ensures.actor ∙ sym number; part = sits.part });
            fresh = fresh-push players player before.fresh sits.fresh;
          });
      closed = ap are_closed pushed ∙ closed-push players player c.loop-script.invariant.closed c.in-Ok.ensures.closed;
      scripts = ap scripts_in pushed ∙ map-append script_in players (player ∷ []) ∙ (λ i. c.loop-script.invariant.scripts i ++ c.in-Ok.ensures.script i ∷ []);
    }

pub returns-clause-sit : goal.returns-clause-sit
returns-clause-sit g c = λ space empty enough.
    let whole : c.loop-script.yielded ≡ c.args.scripts = sym (map-id c.loop-script.yielded) ∙
    (YieldsList-end (YieldsList-from_vec {s = c.into_iter-script-iterator.result} c.args.scripts (c.into_iter-script-iterator.ensures.into_iter_gives.0 ∙ c.into_vec-script-items.ensures)
    (c.into_iter-script-iterator.ensures.into_iter_gives.1 ∙ c.into_vec-script-items.result.ok.0 ∙ ap length c.into_vec-script-items.ensures)) c.loop-script.yielded _ c.loop-script.yielded_by
    c.next.result c.next.new.self c.in-None.is c.next.ensures.steps).0 in
    c.loop-script.invariant.sit space empty (omega (arith, ap length whole, enough))
