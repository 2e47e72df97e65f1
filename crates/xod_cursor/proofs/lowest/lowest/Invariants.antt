use Rattle.std.specs.Prelude.{◌≡◌, List, Option, IsTrue}
use Rattle.xod_base.specs.Views.{Entry}
use Rattle.xod_block.specs.declared.address.Address.{Address}
use Rattle.xod_block.specs.Addresses.{number_of}
use Rattle.xod_block.specs.Fetches.{Stays}
use Rattle.xod_block.specs.Reading.{record_in}
use Rattle.xod_trie.specs.Damage.{IsReached}
use Rattle.xod_cursor.specs.Walks.{BeginsAt}
use Rattle.xod_cursor.proofs.lowest.lowest.Given as goal

abbrev pub invariant-down : goal.invariant-down
invariant-down g l =
    let records = g.F.Fetch.records l.initial.fetch in
    let KnownFirst = record_in l.initial.bytes ≡ records (number_of l.initial.at) in
    record {
      stays : Stays g.F.Fetch.tells g.F.Fetch.records g.F.Fetch.refs g.F.Fetch.faults l.initial.fetch l.fetch;
      no_fault : g.F.Fetch.faults l.fetch ≡ g.F.Fetch.faults l.initial.fetch;
      read : IsTrue (g.F.Fetch.tells l.initial.fetch) → KnownFirst → record_in l.bytes ≡ records (number_of l.at);
      reached : IsTrue (g.F.Fetch.tells l.initial.fetch) → KnownFirst → (root : Option Address) → IsReached records root l.initial.at → IsReached records root l.at;
      begins : IsTrue (g.F.Fetch.tells l.initial.fetch) → KnownFirst → (entries : List Entry) → BeginsAt records l.initial.front (number_of l.initial.at) entries → BeginsAt records l.front (number_of l.at) entries;
    }

abbrev pub decreases-down : goal.decreases-down
decreases-down g l = number_of l.at
