use Rattle.std.proofs.Common.{◌∙◌, sym, ap}
use Rattle.std.specs.Prelude.{is_some}
use Rattle.xod_model.specs.Entries.{id_entry}
use Rattle.xod_model.specs.Keys.{id_key}
use Rattle.xod_model.proofs.EntryLemmas.{read-found, some_mapped}
use Rattle.xod_model.proofs.KeyLemmas.{id_total, id_same, id_alike}
use Rattle.xod_model.proofs.lists.Lists.has.Goals as goal

pub returns : goal.returns
returns c =
    c.is_some.ensures
    ∙ sym (some_mapped (λ item. (id_entry item.now).1) c.find.result)
    ∙ ap is_some (read-found id_total id_same id_key id_alike id_entry c.args.id c.args.self.now.ids _ c.find.result c.of_entity.ensures c.find.ensures)
