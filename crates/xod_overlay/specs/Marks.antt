-- What an overlay holds: the touched keys of each tree, each with a value or a removal mark; and what a tree is with
-- them.
use Rattle.std.specs.Prelude.{ℕ, true, nat_eq, if◌then◌else◌, List, [], ◌∷◌, Option, Some, None, slice_index_or}
use Rattle.std.specs.FinMap.{FinMap, empty, entries, insert, remove}
use Rattle.std.specs.Option.{option_map, option_copied}
use Rattle.xod_base.specs.Values.{bytes_cmp}
use Rattle.xod_base.specs.Views.{Tree, Trees, Test, above}
use Rattle.xod_overlay.specs.declared.overlay.Touched.{Touched}
use Rattle.xod_overlay.specs.declared.write.Write.{Write}

-- what stands at a touched key: a value, or None where the key is removed
abbrev pub Mark : Type 0
Mark = Option (List ℕ)

-- a touched key and what stands there
abbrev pub Touch : Type 0
Touch = List ℕ × Mark

-- the touched keys of one tree
abbrev pub TouchMap : Type 0
TouchMap = FinMap bytes_cmp Mark

-- the touched keys of a tree by its number; a tree past the end of the list has none
abbrev pub touched : List TouchMap → ℕ → TouchMap
touched trees tree = slice_index_or trees tree empty

-- one key more is touched in one tree, or has another mark there; a key that was touched stays touched
abbrev pub touching : (ℕ → TouchMap) → ℕ → List ℕ → Mark → ℕ → TouchMap
touching before tree key mark other = if nat_eq other tree then insert (before tree) key mark else before other

-- the touched keys of each tree after a list of writes, the first one first
abbrev pub all_touching : (ℕ → TouchMap) → List Write → ℕ → TouchMap
all_touching touches [] = touches
all_touching touches (write ∷ more) = all_touching (touching touches write.tree write.key write.value) more

-- the first touch of a list whose key passes
abbrev pub first_touch : Test → List Touch → Option Touch
first_touch passes [] = None
first_touch passes (touch ∷ touches) = if passes touch.0 then Some touch else first_touch passes touches

-- the touch with the least key that passes
abbrev pub least_touch : Test → TouchMap → Option Touch
least_touch passes touches = first_touch passes (entries touches)

-- the keys above a key, or all keys where none is given
abbrev pub above_any : Option (List ℕ) → Test
above_any None other = true
above_any (Some key) other = above key other

-- a touch as it is handed out
abbrev pub touch_of : Touched → Touch
touch_of item = (item.key.now, option_copied item.value)

-- ---- a tree with touched keys

-- a tree with a value put at a key, or the key removed
abbrev pub with_mark : Tree → List ℕ → Mark → Tree
with_mark tree key None = remove tree key
with_mark tree key (Some value) = insert tree key value

abbrev pub with_marks : Tree → List Touch → Tree
with_marks tree [] = tree
with_marks tree (touch ∷ touches) = with_mark (with_marks tree touches) touch.0 touch.1

-- the map below, with the touched keys replaced or removed
unfoldable pub overlaid : Tree → TouchMap → Tree
overlaid base touches = with_marks base (entries touches)

-- trees by number, each with the touched keys of its number; a tree that is absent stays so
abbrev pub overlaid_trees : (ℕ → TouchMap) → Trees → Trees
overlaid_trees touches trees tree = option_map (λ base. overlaid base (touches tree)) (trees tree)
