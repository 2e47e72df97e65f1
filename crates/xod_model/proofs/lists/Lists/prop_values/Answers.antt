use Rattle.std.proofs.Common.{◌∙◌, sym, ap, map}
use Rattle.xod_model.specs.Entries.{prop_entry}
use Rattle.xod_model.specs.Keys.{cell_key}
use Rattle.xod_model.proofs.EntryLemmas.{entries-rising}
use Rattle.xod_model.proofs.KeyLemmas.{cell_total, cell_same, cell_alike}
use Rattle.xod_model.proofs.lists.Lists.prop_values.Goals as goal

pub returns : goal.returns
returns c =
    ap (map prop_entry) c.as_slice.ensures.items
    ∙ sym (entries-rising cell_total cell_same cell_key cell_alike prop_entry c.args.self.now.values c.as_slice.ensures.rises)
