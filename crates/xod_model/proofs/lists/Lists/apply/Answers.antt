use Rattle.std.proofs.Common.{◌∙◌, ap, sym}
use Rattle.xod_journal.specs.declared.change.RowChange.TheVariants.{Prop}
use Rattle.xod_journal.specs.Changes.{applied}
use Rattle.xod_model.specs.Entries.{id_entry, join_entry, prop_entry, rows_of}
use Rattle.xod_model.specs.Keys.{cell_key, id_key}
use Rattle.xod_model.proofs.EntryLemmas.{from_entries-without}
use Rattle.xod_model.proofs.KeyLemmas.{id_total, id_same, id_alike, cell_total, cell_same, cell_alike, link_total, link_same, link_alike}
use Rattle.xod_model.proofs.lists.Lists.apply.Goals as goal

pub returns-in-RemoveEntity-clause-rows : goal.returns-in-RemoveEntity-clause-rows
returns-in-RemoveEntity-clause-rows c =
    let ids = from_entries-without id_total id_same id_key id_alike id_entry c.in-RemoveEntity.id _ c.args.self.now.ids _ c.of_entity.ensures c.remove.ensures in
    (λ i. record (rows_of c.args.self.now) { ids = ids i }) ∙ ap (applied (rows_of c.args.self.now)) (sym c.in-RemoveEntity.is)

pub returns-in-None-clause-rows : goal.returns-in-None-clause-rows
returns-in-None-clause-rows c =
    let at = c.in-Prop in
    let values = from_entries-without cell_total cell_same cell_key cell_alike prop_entry (at.id, at.name) _ c.args.self.now.values _ c.of_prop.ensures.key c.remove-in-None.ensures in
    (λ i. record (rows_of c.args.self.now) { values = values i }) ∙ ap (applied (rows_of c.args.self.now)) (ap (Prop at.id at.name at.old) (sym c.in-None.is) ∙ sym at.is)

pub returns-in-LinkDel-clause-rows : goal.returns-in-LinkDel-clause-rows
returns-in-LinkDel-clause-rows c =
    let at = c.in-LinkDel in
    let joined = from_entries-without link_total link_same (λ k. k) link_alike join_entry (at.source, (at.link, at.target)) _ c.args.self.now.joined _ c.of_join.ensures.key c.remove-in-LinkDel.ensures in
    (λ i. record (rows_of c.args.self.now) { joined = joined i }) ∙ ap (applied (rows_of c.args.self.now)) (sym at.is)
