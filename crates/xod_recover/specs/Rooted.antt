-- The bytes that a root record is.
use Rattle.std.specs.Prelude.{◌≡◌, ℕ, List}
use Rattle.xod_block.specs.Records.{Fits, spelling}
use Rattle.xod_root.specs.Roots.{Roots, root_record}

-- bytes are the root record of a commit that lists these roots, from first to last
pub record SpellsRoot (commit : ℕ) (roots : Roots) (bytes : List ℕ) : Type 0 where
  pub spelled : bytes ≡ spelling (root_record commit roots)
  pub fits : Fits (root_record commit roots)
