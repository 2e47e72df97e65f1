use Rattle.std.proofs.Common.{◌∙◌, sym, ap, map, refl}
use Rattle.xod_model.specs.Entries.{id_entry}
use Rattle.xod_model.specs.Keys.{id_key}
use Rattle.xod_model.proofs.EntryLemmas.{entries-rising, map-map_same}
use Rattle.xod_model.proofs.KeyLemmas.{id_total, id_same, id_alike}
use Rattle.xod_model.proofs.lists.Lists.entities.Goals as goal

pub returns : goal.returns
returns c =
    c.as_slice.ensures.items
    ∙ sym (ap (map (λ e. e.0)) (entries-rising id_total id_same id_key id_alike id_entry c.args.self.now.ids c.as_slice.ensures.rises) ∙ map-map_same id_entry (λ e. e.0) (λ id. refl) c.args.self.now.ids)
