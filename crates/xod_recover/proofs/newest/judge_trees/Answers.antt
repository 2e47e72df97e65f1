use Rattle.std.proofs.Common.{◌+◌, ◌-◌, ℕ, ap, arith}
use Rattle.std.specs.FinMap.{entries}
use Rattle.xod_recover.proofs.Judging.{root-kinds}
use Rattle.xod_recover.proofs.newest.judge_trees.Goals as goal

pub returns-clause-root : goal.returns-clause-root
returns-clause-root g c told = record { long = c.requires.long told; spelled = c.requires.spelled told }

pub returns-clause-found : goal.returns-clause-found
returns-clause-found g c told =
    (root-kinds (g.V.Volume.files c.args.volume.now) c.args.marked.file c.args.marked.mark c.args.marked.end c.args.marked.back (c.args.marked.end - c.from.result) (c.args.marked.mark + 1) c.args.rooted.0 (entries c.args.rooted.1)
    (ap (λ (back : ℕ). c.args.marked.end - back) c.from.ensures) c.in_ok-kinds.kinds (omega arith) (c.in_ok-kinds.ensures.kinds told)).0

pub returns-clause-kinds : goal.returns-clause-kinds
returns-clause-kinds g c told =
    (root-kinds (g.V.Volume.files c.args.volume.now) c.args.marked.file c.args.marked.mark c.args.marked.end c.args.marked.back (c.args.marked.end - c.from.result) (c.args.marked.mark + 1) c.args.rooted.0 (entries c.args.rooted.1)
    (ap (λ (back : ℕ). c.args.marked.end - back) c.from.ensures) c.in_ok-kinds.kinds (omega arith) (c.in_ok-kinds.ensures.kinds told)).1
