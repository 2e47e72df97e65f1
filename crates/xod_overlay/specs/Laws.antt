-- What a tree with touched keys has at each key, and what one touch more makes of it.
use Rattle.std.specs.Prelude.{◌≡◌, ℕ, List, ◌∷◌, ◌++◌, Some, None, slice_get}
use Rattle.std.specs.FinMap.{empty, entries, get, insert, remove}
use Rattle.std.specs.Option.{unwrap_or}
use Rattle.xod_base.specs.Views.{Tree}
use Rattle.xod_overlay.specs.Marks.{Touch, TouchMap, above_any, least_touch, overlaid}

-- at a touched key stands its mark, and at each other key what stands below
abbrev pub TouchedKeysDecide : Type 0
TouchedKeysDecide = (base : Tree) (touches : TouchMap) (key : List ℕ)
    → get (overlaid base touches) key ≡ unwrap_or (get touches key) (get base key)

-- without touched keys a tree is the one below
abbrev pub UntouchedIsBelow : Type 0
UntouchedIsBelow = (base : Tree) → overlaid base empty ≡ base

-- a put shows as a put into the tree
abbrev pub PutsShow : Type 0
PutsShow = (base : Tree) (touches : TouchMap) (key value : List ℕ)
    → overlaid base (insert touches key (Some value)) ≡ insert (overlaid base touches) key value

-- a removal shows as a removal from it
abbrev pub RemovalsShow : Type 0
RemovalsShow = (base : Tree) (touches : TouchMap) (key : List ℕ)
    → overlaid base (insert touches key None) ≡ remove (overlaid base touches) key

-- the least touch of all is the first
abbrev pub WalksBegin : Type 0
WalksBegin = (touches : TouchMap) → least_touch (above_any None) touches ≡ slice_get (entries touches) 0

-- and the least above one is the next, so that a walk from each to the next meets every touch once, by rising key
abbrev pub WalksGoOn : Type 0
WalksGoOn = (touches : TouchMap) (before behind : List Touch) (touch : Touch)
    → entries touches ≡ before ++ touch ∷ behind → least_touch (above_any (Some touch.0)) touches ≡ slice_get behind 0
