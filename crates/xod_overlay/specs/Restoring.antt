-- Writes that are taken back: what the touched keys are once a key has the mark again that stood there before.
use Rattle.std.specs.Prelude.{ℕ, nat_eq, if◌then◌else◌, List, [], ◌∷◌, Option, Some, None}
use Rattle.std.specs.Ordering.{match_ordering}
use Rattle.std.specs.FinMap.{entries, from_sorted}
use Rattle.xod_base.specs.Values.{bytes_cmp}
use Rattle.xod_overlay.specs.declared.writing.Undo.{Undo}
use Rattle.xod_overlay.specs.Marks.{Mark, Touch, TouchMap}

-- a key with the mark that stood there before, or without a touch where none stood, and the touches behind it
abbrev pub with_before : List ℕ → Option Mark → List Touch → List Touch
with_before key None touches = touches
with_before key (Some mark) touches = (key, mark) ∷ touches

-- Touches by rising key, where one key has again what stood there before, or goes. Where the key is not touched they
-- stay.
abbrev pub restored : List ℕ → Option Mark → List Touch → List Touch
restored key before [] = []
restored key before (touch ∷ touches) = match_ordering (bytes_cmp key touch.0)
    (touch ∷ touches)
    (with_before touch.0 before touches)
    (touch ∷ restored key before touches)

-- the touched keys of a tree, where one key has again what stood there before, or goes
unfoldable pub restored_keys : TouchMap → List ℕ → Option Mark → TouchMap
restored_keys keys key before = from_sorted (restored key before (entries keys))

-- the touched keys of each tree, where one key of one tree has again what stood there before
abbrev pub restoring : (ℕ → TouchMap) → ℕ → List ℕ → Option Mark → ℕ → TouchMap
restoring touches tree key before other = if nat_eq other tree then restored_keys (touches tree) key before else touches other

-- the touched keys of each tree once writes are taken back, the last one first
unfoldable pub undone : (ℕ → TouchMap) → List Undo → ℕ → TouchMap
undone touches [] = touches
undone touches (undo ∷ more) = restoring (undone touches more) undo.tree undo.key undo.before
