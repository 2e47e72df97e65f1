use Rattle.std.proofs.Common.{◌∙◌, ◌+◌}
use Rattle.xod_journal.specs.Changes.{with_name, with_next}
use Rattle.xod_model.specs.Entries.{id_entry, rows_of}
use Rattle.xod_model.specs.Keys.{id_key}
use Rattle.xod_model.proofs.EntryLemmas.{from_entries-put}
use Rattle.xod_model.proofs.KeyLemmas.{id_total, id_same, id_alike}
use Rattle.xod_model.proofs.lists.Lists.add_entity.Goals as goal

pub returns-clause-rows : goal.returns-clause-rows
returns-clause-rows c =
    let types = c.add_name.ensures ∙ (λ i. with_name (c.in_ok-reserve.ensures.items i) (c.in_ok-listed.ensures.equal i)) in
    let nexts = c.set_next.ensures ∙ (λ i. with_next (c.in_ok-reserve-2.ensures.items i) c.args.id.kind (c.from.ensures i + 1)) in
    let ids = from_entries-put id_total id_same id_key id_alike id_entry c.args.id c.args.self.now.ids _ c.in_ok-put.ensures in
    λ i. record (rows_of c.args.self.now) { types = types i; nexts = nexts i; ids = ids i }
