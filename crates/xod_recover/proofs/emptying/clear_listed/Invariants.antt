use Rattle.std.proofs.Common.{◌≡◌, ◌<◌, ◌≤◌, ℕ, [], Some}
use Rattle.std.specs.FinMap.{get}
use Rattle.std.specs.Prelude.{IsTrue}
use Rattle.xod_log.specs.Standing.{last_file}
use Rattle.xod_recover.specs.Emptied.{IsEmptied, IsPairAt}
use Rattle.xod_recover.specs.Found.{newest_of}
use Rattle.xod_recover.specs.Tails.{AllNearAsFound}
use Rattle.xod_recover.specs.Writes.{Writes, Wrote}
use Rattle.xod_recover.proofs.emptying.clear_listed.Given as goal

abbrev pub invariant-loop-index : goal.invariant-loop-index
invariant-loop-index g l =
    let V = g.V.Volume in
    record {
      writes : Writes V.tells V.files V.moment V.may_leave V.leases V.refs V.faults (newest_of l.found) l.initial.volume l.volume;
      wrote : Wrote V.tells V.files V.moment V.may_leave V.faults (newest_of l.found) l.initial.volume l.volume;
      near : IsTrue (V.tells l.initial.volume) → AllNearAsFound (newest_of l.found) (V.files l.initial.volume) (V.may_leave l.initial.volume (V.moment l.initial.volume)) → AllNearAsFound (newest_of l.found) (V.files l.volume) (V.may_leave l.volume (V.moment l.volume));
      stay_empty : IsTrue (V.tells l.initial.volume) → (file : ℕ) → get (V.files l.initial.volume) file ≡ Some [] → get (V.files l.volume) file ≡ Some [];
      emptied : IsTrue (V.tells l.initial.volume) → (index : ℕ) → index < l.index → (other : ℕ) → IsPairAt l.numbers index other → l.above < other → other ≤ last_file → IsEmptied other (V.files l.volume);
    }
