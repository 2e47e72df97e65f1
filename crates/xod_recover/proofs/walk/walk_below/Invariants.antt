use Rattle.std.proofs.Common.{◌≡◌, ◌∷◌, reverse}
use Rattle.std.specs.Prelude.{None}
use Rattle.xod_block.specs.Fetches.{Stays}
use Rattle.xod_recover.specs.Frames.{AreClean, IsReady, bad_below, lists_body}
use Rattle.xod_recover.specs.Ways.{IsLeft, LeadsUp, weight_of}
use Rattle.xod_recover.proofs.walk.walk_below.Given as goal

abbrev pub invariant-down : goal.invariant-down
invariant-down g l =
    let records = g.F.Fetch.records l.initial.fetch in
    let has_body = lists_body l.numbers in
    let Ready = IsReady (g.F.Fetch.tells l.initial.fetch) records has_body l.initial.walked in
    record {
      stays : Stays g.F.Fetch.tells g.F.Fetch.records g.F.Fetch.refs g.F.Fetch.faults l.initial.fetch l.fetch;
      no_fault : g.F.Fetch.faults l.fetch ≡ g.F.Fetch.faults l.initial.fetch;
      clean : Ready → IsLeft records has_body None l.initial.top → AreClean records has_body l.walked;
      leads : Ready → IsLeft records has_body None l.initial.top → LeadsUp records has_body (bad_below records has_body l.initial.top.at) None (l.top ∷ reverse l.way.items);
    }

abbrev pub decreases-down : goal.decreases-down
decreases-down g l = weight_of l.top l.way.items
