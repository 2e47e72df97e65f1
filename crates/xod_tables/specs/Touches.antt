-- Writes that a transaction keeps in an overlay, and how they show in the trees that it sees.
use Rattle.std.specs.Prelude.{◌≡◌, ℕ, List}
use Rattle.xod_base.specs.Views.{Trees}
use Rattle.xod_overlay.specs.Marks.{TouchMap, all_touching, overlaid_trees}
use Rattle.xod_overlay.specs.declared.write.Write.{Write}
use Rattle.xod_tables.specs.Writes.{after_writes}

-- writes that are touched show as writes
abbrev pub TouchesShowAsWrites : Type 0
TouchesShowAsWrites = (touches : ℕ → TouchMap) (trees : Trees) (writes : List Write)
    → overlaid_trees (all_touching touches writes) trees ≡ after_writes (overlaid_trees touches trees) writes
