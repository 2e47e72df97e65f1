use Rattle.std.proofs.Common.{◌∙◌, sym, ap}
use Rattle.std.specs.Prelude.{option_map}
use Rattle.xod_model.specs.Entries.{prop_entry}
use Rattle.xod_model.specs.Keys.{cell_key}
use Rattle.xod_model.proofs.EntryLemmas.{read-found}
use Rattle.xod_model.proofs.KeyLemmas.{cell_total, cell_same, cell_alike}
use Rattle.xod_model.proofs.lists.Lists.value.Goals as goal

pub returns-in-Some : goal.returns-in-Some
returns-in-Some c =
    ap (option_map (λ item. item.now.value)) (sym c.in-Some.is)
    ∙ read-found cell_total cell_same cell_key cell_alike prop_entry (c.args.id, c.args.name.now) c.args.self.now.values _ c.find.result c.of_prop.ensures.key c.find.ensures

pub returns-in-None : goal.returns-in-None
returns-in-None c =
    ap (option_map (λ item. item.now.value)) (sym c.in-None.is)
    ∙ read-found cell_total cell_same cell_key cell_alike prop_entry (c.args.id, c.args.name.now) c.args.self.now.values _ c.find.result c.of_prop.ensures.key c.find.ensures
