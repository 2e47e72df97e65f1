-- The entries of a tree whose keys lie from one key to another, and what a walk over them is still to give.
use Rattle.std.specs.Prelude.{ℕ, ◌-◌, Bool, true, not, ◌&&◌, List, if◌then◌else◌}
use Rattle.std.specs.Ordering.{is_gt}
use Rattle.xod_base.specs.Values.{bytes_cmp, is_within}
use Rattle.xod_base.specs.Views.{Entry, Tree, Test, not_below, above, those_that}
use Rattle.xod_range.specs.declared.range.Range.{Range}

-- the entries with keys from a low one to a high one, both included, by rising key
abbrev pub in_range : List ℕ → List ℕ → Tree → List Entry
in_range low high tree = those_that (is_within low high) tree

-- the keys from one on, or above it
abbrev pub onward : Bool → List ℕ → Test
onward strict at = if strict then above at else not_below at

-- the keys from one on, or above it, that do not come behind the last one
abbrev pub is_ahead : Bool → List ℕ → List ℕ → Test
is_ahead strict at last key = (if strict then above at key else not_below at key) && not (is_gt (bytes_cmp key last))

-- the entries that a walk is still to give
abbrev pub coming : Range → Tree → List Entry
coming range tree = those_that (is_ahead range.strict range.at range.last) tree

-- a walk that goes on above a key
abbrev pub behind : Range → List ℕ → Range
behind range key = record { tree = range.tree; at = key; strict = true; last = range.last; left = range.left - 1 }
