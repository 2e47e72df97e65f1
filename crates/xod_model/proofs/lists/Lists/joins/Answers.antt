use Rattle.std.proofs.Common.{◌∙◌, sym, ap, map}
use Rattle.xod_model.specs.Entries.{join_entry, join_key}
use Rattle.xod_model.proofs.EntryLemmas.{entries-rising, map-map}
use Rattle.xod_model.proofs.KeyLemmas.{link_total, link_same, link_alike}
use Rattle.xod_model.proofs.lists.Lists.joins.Goals as goal

pub returns : goal.returns
returns c =
    ap (map join_key) c.as_slice.ensures.items
    ∙ sym (ap (map (λ e. e.0)) (entries-rising link_total link_same (λ k. k) link_alike join_entry c.args.self.now.joined c.as_slice.ensures.rises) ∙ map-map join_entry (λ e. e.0) c.args.self.now.joined)
