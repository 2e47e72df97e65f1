use Rattle.std.specs.Prelude.{◌≡◌, Option, None, IsTrue}
use Rattle.xod_block.specs.declared.address.Address.{Address}
use Rattle.xod_block.specs.Fetches.{Stays}
use Rattle.xod_cursor.specs.Cursors.{StandsOn, path_entries}
use Rattle.xod_cursor.proofs.Paths.{depth}
use Rattle.xod_cursor.proofs.cursor.Cursor.step.Given as goal

abbrev pub invariant-down : goal.invariant-down
invariant-down g l =
    let records = g.F.Fetch.records l.fn.fetch in
    let Told = IsTrue (g.F.Fetch.tells l.fn.fetch) in
    record {
      stays : Stays g.F.Fetch.tells g.F.Fetch.records g.F.Fetch.refs g.F.Fetch.faults l.fn.fetch l.fetch;
      no_fault : g.F.Fetch.faults l.fetch ≡ g.F.Fetch.faults l.fn.fetch;
      first : l.self.first ≡ None;
      path : Told → path_entries records l.self.path.items ≡ path_entries records l.fn.self.path.items;
      stands : Told → (root : Option Address) → StandsOn records root l.fn.self.path.items → StandsOn records root l.self.path.items;
    }

abbrev pub decreases-down : goal.decreases-down
decreases-down g l = depth l.self.path.items
