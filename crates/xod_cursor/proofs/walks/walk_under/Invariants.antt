use Rattle.std.specs.Prelude.{◌≡◌, Some, IsTrue}
use Rattle.xod_block.specs.Addresses.{number_of}
use Rattle.xod_block.specs.Fetches.{Stays}
use Rattle.xod_block.specs.Maps.{Pairs, map_at}
use Rattle.xod_block.specs.Reading.{record_in}
use Rattle.xod_trie.specs.Damage.{IsReached}
use Rattle.xod_trie.specs.Least.{passes}
use Rattle.xod_cursor.specs.Entries.{kept}
use Rattle.xod_cursor.specs.Walks.{IsBack, IsBackReached, Walks}
use Rattle.xod_cursor.proofs.walks.walk_under.Given as goal

abbrev pub invariant-down : goal.invariant-down
invariant-down g l =
    let records = g.F.Fetch.records l.fn.fetch in
    let Told = IsTrue (g.F.Fetch.tells l.fn.fetch) in
    record {
      stays : Stays g.F.Fetch.tells g.F.Fetch.records g.F.Fetch.refs g.F.Fetch.faults l.fn.fetch l.fetch;
      no_fault : g.F.Fetch.faults l.fetch ≡ g.F.Fetch.faults l.fn.fetch;
      read : Told → record_in l.bytes ≡ records (number_of l.at);
      reached : Told → IsReached records (Some l.fn.root) l.at;
      back_reached : Told → IsBackReached records (Some l.fn.root) l.back;
      walks : Told → (pairs : Pairs) → map_at records (number_of l.fn.root) ≡ Some pairs → Walks records l.strict l.key (kept (passes l.strict l.key) pairs) (number_of l.at) l.rest (IsBack records l.back);
    }

abbrev pub decreases-down : goal.decreases-down
decreases-down g l = number_of l.at
