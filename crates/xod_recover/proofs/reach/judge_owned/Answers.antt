use Rattle.std.proofs.Common.{◌≡◌, List, None, sym, ◌∙◌, subst}
use Rattle.std.specs.FinMap.{same_entries_map}
use Rattle.xod_block.specs.Records.{Link}
use Rattle.xod_recover.specs.Cuts.{lent_upto}
use Rattle.xod_recover.specs.Frames.{lists_body}
use Rattle.xod_recover.specs.Walks.{bad_trees}
use Rattle.xod_recover.proofs.Judging.{judged-counts, judged-damaged, judged-kinds}
use Rattle.xod_recover.proofs.reach.judge_owned.Goals as goal

pub returns-clause-kinds : goal.returns-clause-kinds
returns-clause-kinds g c told stands =
    let lent = g.L.Lease.lent c.args.snapshot.now.lease.lease in
    judged-kinds lent _ (lists_body c.args.numbers.now) c.args.root c.args.end c.args.snapshot.now.roots
    (same_entries_map _ _ (c.walk_lease.new.lease.lent_is ∙ sym c.args.snapshot.now.lease.lent_is))
    (subst (λ (l : List Link). bad_trees (lent_upto lent c.args.root.file c.args.end) (lists_body c.args.numbers.now) c.args.root l ≡ None) c.as_slice.ensures.exactly (c.in_ok-walk_lease.ensures.whole told stands))
    _ (c.walk_lease.ensures.tells_same ∙ told) c.audit-audited.result c.audit-audited.ensures.audits c.kinds_audited.result c.kinds_audited.ensures

pub returns-clause-damaged : goal.returns-clause-damaged
returns-clause-damaged g c told stands =
    let lent = g.L.Lease.lent c.args.snapshot.now.lease.lease in
    judged-damaged lent _ (lists_body c.args.numbers.now) c.args.root c.args.end c.args.snapshot.now.roots
    (same_entries_map _ _ (c.walk_lease.new.lease.lent_is ∙ sym c.args.snapshot.now.lease.lent_is))
    (subst (λ (l : List Link). bad_trees (lent_upto lent c.args.root.file c.args.end) (lists_body c.args.numbers.now) c.args.root l ≡ None) c.as_slice.ensures.exactly (c.in_ok-walk_lease.ensures.whole told stands))
    _ (c.walk_lease.ensures.tells_same ∙ told) c.audit-audited.result c.audit-audited.ensures.audits c.kinds_audited.result c.kinds_audited.ensures

pub returns-clause-counts : goal.returns-clause-counts
returns-clause-counts g c =
    judged-counts c.args.root c.audit-audited.result c.kinds_audited.result (g.L.Lease.faults c.args.snapshot.now.lease.lease) _ _
    c.in_ok-walk_lease.ensures.counts.ok c.audit-audited.ensures.counts c.kinds_audited.ensures
