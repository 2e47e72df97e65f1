use Rattle.std.proofs.Common.{◌∙◌, sym, ap}
use Rattle.std.specs.Prelude.{is_some}
use Rattle.xod_model.specs.Entries.{join_entry}
use Rattle.xod_model.proofs.EntryLemmas.{read-found, some_mapped}
use Rattle.xod_model.proofs.KeyLemmas.{link_total, link_same, link_alike}
use Rattle.xod_model.proofs.lists.Lists.has_join.Goals as goal

pub returns : goal.returns
returns c =
    c.is_some.ensures
    ∙ sym (some_mapped (λ item. (join_entry item.now).1) c.find.result)
    ∙ ap is_some (read-found link_total link_same (λ k. k) link_alike join_entry (c.args.source, (c.args.link.now, c.args.target)) c.args.self.now.joined _ c.find.result c.of_join.ensures.key c.find.ensures)
