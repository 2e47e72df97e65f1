-- Where a number stands among links by rising number.
use Rattle.std.specs.Prelude.{ℕ, suc, List, [], ◌∷◌, nat_lt, if◌then◌else◌, Option, Some, None}
use Rattle.xod_block.specs.declared.address.Address.{Address}
use Rattle.xod_block.specs.Records.{Link}

-- how many links at the front have a number below this one
abbrev pub place_below : ℕ → List Link → ℕ
place_below number [] = 0
place_below number (link ∷ links) = if nat_lt link.0 number then suc (place_below number links) else 0

-- the link of a tree that has a root
abbrev pub link_of : ℕ × Option Address → List Link
link_of (tree, None) = []
link_of (tree, Some root) = (tree, root) ∷ []
