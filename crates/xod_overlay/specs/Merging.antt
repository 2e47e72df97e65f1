-- The walk over two sides in step: what was found below, and the touches that are to come.
use Rattle.std.specs.Prelude.{ℕ, List, [], ◌∷◌, Option, Some, None}
use Rattle.std.specs.declared.cmp.Ordering.{Ordering}
use Rattle.std.specs.declared.cmp.Ordering.TheVariants.{Greater}
use Rattle.std.specs.Ordering.{match_ordering}
use Rattle.xod_base.specs.declared.pair.Pair.{Pair}
use Rattle.xod_base.specs.Values.{bytes_cmp}
use Rattle.xod_base.specs.Views.{Tree, above, least_pair}
use Rattle.xod_overlay.specs.Marks.{Mark, Touch}

-- how what was found stands to a key; nothing stands behind every key
abbrev pub found_cmp : Option Pair → List ℕ → Ordering
found_cmp None key = Greater
found_cmp (Some pair) key = bytes_cmp pair.key key

-- the pair of a touch with a value, or else what comes behind a removal mark
abbrev pub put_or : List ℕ → Mark → Option Pair → Option Pair
put_or key None later = later
put_or key (Some value) later = Some (record { key = key; value = value })

-- What was found below is the answer where it stands before the next touch. Else the touch is, or it is a removal mark
-- and is passed, with what it removes.
abbrev pub merged : Tree → Option Pair → List Touch → Option Pair
merged base found [] = found
merged base found (touch ∷ touches) = match_ordering (found_cmp found touch.0)
    found
    (put_or touch.0 touch.1 (merged base (least_pair (above touch.0) base) touches))
    (put_or touch.0 touch.1 (merged base found touches))
