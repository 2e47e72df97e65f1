-- The touches of a tree in pieces, one after another, and which piece a key belongs to.
use Rattle.std.specs.Prelude.{◌≡◌, ◌<◌, ◌≤◌, ◌/◌, nat_le, ℕ, zero, suc, Bool, false, not, ◌&&◌, T, is_some, List, [], ◌∷◌, ◌++◌, length, take, drop, All}
use Rattle.std.specs.List.{flat_map}
use Rattle.std.specs.FinMap.{find, is_sorted}
use Rattle.std.specs.declared.cmp.Ordering.TheVariants.{Less}
use Rattle.xod_base.specs.Values.{bytes_cmp}
use Rattle.xod_base.specs.Views.{above}
use Rattle.xod_overlay.specs.declared.piece.TheConstants.{MOST}
use Rattle.xod_overlay.specs.declared.rest.Rest.{Rest}
use Rattle.xod_overlay.specs.Marks.{Touch}

-- the touches of all pieces
abbrev pub joined : List (List Touch) → List Touch
joined pieces = flat_map (λ piece. piece) pieces

-- a piece has some touches, and no more than a full one
abbrev pub IsSized : List Touch → Type 0
IsSized piece = (0 < length piece) × (length piece ≤ MOST)

-- pieces of which none is empty and none more than full, with their touches by rising key
pub record IsInPieces (pieces : List (List Touch)) : Type 0 where
  pub sized : All IsSized pieces
  pub by_key : T (is_sorted bytes_cmp (joined pieces))

-- a touch of a key that comes before this one
abbrev pub IsBefore : List ℕ → Touch → Type 0
IsBefore key touch = bytes_cmp touch.0 key ≡ Less

-- a touch of a key that comes behind this one
abbrev pub IsBehind : List ℕ → Touch → Type 0
IsBehind key touch = bytes_cmp key touch.0 ≡ Less

-- A key belongs to the piece at a place: the pieces before it end before the key, and those behind it begin behind the
-- key.
pub record IsSeat (key : List ℕ) (pieces : List (List Touch)) (at : ℕ) : Type 0 where
  pub before : All (IsBefore key) (joined (take at pieces))
  pub behind : All (IsBehind key) (joined (drop (suc at) pieces))

-- whether a piece begins at a key or before it
abbrev pub begins_by : List ℕ → List Touch → Bool
begins_by key [] = false
begins_by key (touch ∷ touches) = not (above key touch.0)

-- whether a piece has no room for a key: it is full, and the key is not in it
abbrev pub is_full_without : List ℕ → List Touch → Bool
is_full_without key piece = nat_le MOST (length piece) && not (is_some (find bytes_cmp key piece))

-- the pieces with the one at a place cut in two halves
abbrev pub with_cut : List (List Touch) → ℕ → List (List Touch)
with_cut [] at = []
with_cut (piece ∷ pieces) zero = take (length piece / 2) piece ∷ drop (length piece / 2) piece ∷ pieces
with_cut (piece ∷ pieces) (suc at) = piece ∷ with_cut pieces at

-- the touches that are left on a walk
abbrev pub rest_of : Rest → List Touch
rest_of rest = rest.here.now ++ joined rest.later.now
