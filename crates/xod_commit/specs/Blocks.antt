-- What may be committed, and what the roots of a commit are.
use Rattle.std.specs.Prelude.{◌≤◌, ℕ, Bool, ◌&&◌, nat_le, nat_lt, List, IsSome, IfSome}
use Rattle.std.specs.FinMap.{get}
use Rattle.std.specs.List.{list_all}
use Rattle.xod_block.specs.declared.address.Address.{Address}
use Rattle.xod_block.specs.Addresses.{number_of}
use Rattle.xod_block.specs.Records.{Link, FitsOwn, FitsPart}
use Rattle.xod_overlay.specs.Marks.{Mark, TouchMap}
use Rattle.xod_root.specs.Roots.{Roots}

-- ---- numbers of trees

-- a tree of a store has a number from 1 to 8
abbrev pub IsTreeNumber : ℕ → Type 0
IsTreeNumber number = (1 ≤ number) × (number ≤ 8)

-- whether each tree that is listed has one
abbrev pub have_tree_numbers : List Link → Bool
have_tree_numbers links = list_all (λ link. nat_le 1 link.0 && nat_le link.0 8) links

-- the same, said of roots by their trees
abbrev pub AreNumbered : Roots → Type 0
AreNumbered roots = (tree : ℕ) → IsSome (get roots tree) → IsTreeNumber tree

-- ---- where roots begin

-- whether each root that is listed begins before an address
abbrev pub all_begin_before : Address → List Link → Bool
all_begin_before at links = list_all (λ link. nat_lt (number_of link.1) (number_of at)) links

-- ---- touched keys that fit

-- a touched key, and the value that is put there if one is, are no longer than a part of a record can be
abbrev pub FitsTouch : List ℕ → Mark → Type 0
FitsTouch key mark = FitsPart key × FitsOwn mark

-- each touched key of a tree is so
abbrev pub FitTouches : TouchMap → Type 0
FitTouches touches = (key : List ℕ) → IfSome (get touches key) (FitsTouch key)

-- Touched keys that may be committed: only trees of a store have any, and each of them fits.
pub record Fit (touches : ℕ → TouchMap) : Type 0 where
  pub numbered : (tree : ℕ) (key : List ℕ) → IsSome (get (touches tree) key) → IsTreeNumber tree
  pub parts : (tree : ℕ) → FitTouches (touches tree)
