use Rattle.std.proofs.Common.{◌∙◌, map}
use Rattle.std.specs.FinMap.{from_entries, insert}
use Rattle.xod_journal.specs.Changes.{with_name}
use Rattle.xod_model.specs.Entries.{join_entry, rows_of}
use Rattle.xod_model.proofs.EntryLemmas.{from_entries-put}
use Rattle.xod_model.proofs.KeyLemmas.{link_total, link_same, link_alike}
use Rattle.xod_model.proofs.lists.Lists.add_join.Goals as goal

pub returns-clause-rows : goal.returns-clause-rows
returns-clause-rows c =
    let links = c.add_name.ensures ∙ (λ i. with_name (c.in_ok-reserve.ensures.items i) (c.in_ok-listed.ensures.equal i)) in
    let joined = from_entries-put link_total link_same (λ k. k) link_alike join_entry _ c.args.self.now.joined _ c.in_ok-put.ensures
    ∙ (λ i. insert (from_entries (map join_entry c.args.self.now.joined)) (c.args.source, (c.in_ok-try_clone.ensures.equal i, c.args.target)) tt) in
    λ i. record (rows_of c.args.self.now) { links = links i; joined = joined i }
