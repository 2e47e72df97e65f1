use Rattle.std.proofs.Common.{◌∙◌, map}
use Rattle.std.specs.FinMap.{from_entries, insert}
use Rattle.xod_journal.specs.Changes.{with_name}
use Rattle.xod_model.specs.Entries.{prop_entry, rows_of}
use Rattle.xod_model.specs.Keys.{cell_key}
use Rattle.xod_model.proofs.EntryLemmas.{from_entries-put}
use Rattle.xod_model.proofs.KeyLemmas.{cell_total, cell_same, cell_alike}
use Rattle.xod_model.proofs.lists.Lists.set_value.Goals as goal

pub returns-clause-rows : goal.returns-clause-rows
returns-clause-rows c =
    let props = c.add_name.ensures ∙ (λ i. with_name (c.in_ok-reserve.ensures.items i) (c.in_ok-listed.ensures.equal i)) in
    let values = from_entries-put cell_total cell_same cell_key cell_alike prop_entry _ c.args.self.now.values _ c.in_ok-put.ensures
    ∙ (λ i. insert (from_entries (map prop_entry c.args.self.now.values)) (c.args.id, c.in_ok-try_clone.ensures.equal i) (c.in_ok-try_clone-2.ensures.equal i)) in
    λ i. record (rows_of c.args.self.now) { props = props i; values = values i }
