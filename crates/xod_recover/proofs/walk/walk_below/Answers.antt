use Rattle.std.proofs.Common.{◌≡◌, Some, reverse, rules}
use Rattle.xod_block.specs.Maps.{RecordsAt}
use Rattle.xod_recover.specs.Frames.{StandInBodies, bad_below, lists_body}
use Rattle.xod_recover.specs.Walks.{bad_under}
use Rattle.xod_recover.proofs.Upward.{over, up-bad, up-noted, up-popped, answered}
use Rattle.xod_recover.proofs.Weights.{weight-down, weight-up}
use Rattle.xod_recover.proofs.walk.walk_below.Goals as goal

pub returns-in_err-found-in-Some-clause-damaged : goal.returns-in_err-found-in-Some-clause-damaged
returns-in_err-found-in-Some-clause-damaged g c ready left place e =
    let records = g.F.Fetch.records c.args.fetch.now in
    let has_body = lists_body c.args.numbers.now in
    up-bad records has_body (bad_below records has_body c.args.first.at) c.down.top c.advance.new.frame c.in-Some.child (reverse c.down.way.items) c.in-Some.ensures.next (c.down.invariant.leads ready left) place
    (over (λ (r : RecordsAt). StandInBodies r has_body → bad_under r has_body c.advance.new.frame.at c.in-Some.child ≡ Some place) c.down.invariant.stays ready.told (λ told stand. c.in_err-found-in-Some.ensures.damaged told stand place (answered _ _ c.from_residual.result c.from_residual.ensures.1 e)) ready.stand)

pub down-smaller-in-Some-found : goal.down-smaller-in-Some-found
down-smaller-in-Some-found g c =
    weight-down c.down.top c.advance.new.frame (record { at = c.in-Some.child; children = c.in-Some-found.children; next = 0 }) c.in-Some.child c.down.way.items c.put.new.way.items c.in-Some.ensures.next c.in_ok-found-in-Some.ensures.below (search rules) c.in_ok-put-in-Some.ensures

pub down-smaller : goal.down-smaller
down-smaller g c = weight-up c.down.top c.in-Some-pop.frame c.down.way.items c.pop.new.self.items c.in-Some-pop.ensures.items

pub down-preserved : goal.down-preserved
down-preserved g c = let i = c.down.invariant in
    let records = g.F.Fetch.records c.args.fetch.now in
    let has_body = lists_body c.args.numbers.now in
    let total = bad_below records has_body c.args.first.at in
    record {
      stays = i.stays;
      no_fault = i.no_fault;
      clean = λ ready left. c.in_ok-note-in-None.ensures records has_body (i.clean ready left) (up-noted records has_body total c.down.top c.advance.new.frame.at (reverse c.down.way.items) c.in-None.ensures.end c.advance.ensures.at_same (i.leads ready left));
      leads = λ ready left. up-popped records has_body total c.down.top c.in-Some-pop.frame c.down.way.items c.pop.new.self.items c.in-Some-pop.ensures.items c.in-None.ensures.end (i.leads ready left);
    }
