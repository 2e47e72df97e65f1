use Rattle.std.proofs.Common.{ℕ, Option, subst}
use Rattle.std.specs.Prelude.{IfSome}
use Rattle.xod_root.specs.Roots.{Roots}
use Rattle.xod_volume.specs.Files.{Files}
use Rattle.xod_recover.specs.Rooted.{SpellsRoot}
use Rattle.xod_recover.specs.Steps.{root_bytes}
use Rattle.xod_recover.proofs.OnlyReading.{reads-on}
use Rattle.xod_recover.proofs.newest.judge_root.Goals as goal

pub judge_trees-requires-clause-spelled : goal.judge_trees-requires-clause-spelled
judge_trees-requires-clause-spelled g c = reads-on (λ (f : Files). SpellsRoot c.in-Some.rooted.0 c.in-Some.rooted.1 (root_bytes f c.args.marked)) c.root_before.ensures.reads
    (λ told. subst (λ (o : Option (ℕ × Roots)). IfSome o (λ root. SpellsRoot root.0 root.1 (root_bytes (g.V.Volume.files c.args.volume.now) c.args.marked))) c.in-Some.is (c.in_ok-root_before.ensures.spelled told))
