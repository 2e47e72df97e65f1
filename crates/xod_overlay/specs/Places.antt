-- Places in touches that stand by rising key.
use Rattle.std.specs.Prelude.{ℕ, suc, Bool, if◌then◌else◌, List, [], ◌∷◌, Option, Some, None, is_some, slice_get}
use Rattle.std.specs.Ordering.{eq_by_cmp}
use Rattle.xod_base.specs.Values.{bytes_cmp}
use Rattle.xod_base.specs.Views.{Test, not_below, above}
use Rattle.xod_overlay.specs.Marks.{Mark, Touch}

-- the keys above a key, or those that are not below it
abbrev pub passes : Bool → List ℕ → Test
passes strict key = if strict then above key else not_below key

-- how many touches come before the first whose key passes
abbrev pub place : Test → List Touch → ℕ
place test [] = 0
place test (touch ∷ touches) = if test touch.0 then 0 else suc (place test touches)

-- the touches from that one on
abbrev pub from : Test → List Touch → List Touch
from test [] = []
from test (touch ∷ touches) = if test touch.0 then touch ∷ touches else from test touches

-- the mark of a touch, where its key is this one
abbrev pub mark_at : List ℕ → Option Touch → Option Mark
mark_at key None = None
mark_at key (Some touch) = if eq_by_cmp bytes_cmp key touch.0 then Some touch.1 else None

-- whether a key stands at a place
abbrev pub stands : List ℕ → List Touch → ℕ → Bool
stands key touches at = is_some (mark_at key (slice_get touches at))
