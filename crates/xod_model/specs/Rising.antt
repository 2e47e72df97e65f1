-- Lists whose items rise by their keys.
use Rattle.std.specs.Prelude.{◌≡◌, ℕ, ◌<◌, ◌≤◌, Bool, not, List, [], ◌∷◌, map, length, Some, None, slice_set, slice_index_or}
use Rattle.std.specs.List.{filter, find, insert}
use Rattle.std.specs.Ordering.{eq_by_cmp}
use Rattle.std.specs.FinMap.Entries.{by_order, is_sorted}
use Rattle.xod_base.specs.Rows.{LinkKey, link_cmp}

-- whether an item has a key
abbrev pub is_at : {A : Type 0} → (A → LinkKey) → LinkKey → A → Bool
is_at key sought item = eq_by_cmp link_cmp sought (key item)

-- Whether each item's key is below all those behind it.
abbrev pub rises : {A : Type 0} → (A → LinkKey) → List A → Bool
rises key items = is_sorted link_cmp (map (λ item. (key item, item)) items)

-- The list with an item in its place, where it replaces the one that has its key.
abbrev pub put_item : {A : Type 0} → (A → LinkKey) → A → List A → List A
put_item key item [] = item ∷ []
put_item key item (first ∷ more) = by_order (link_cmp (key item) (key first)) (item ∷ first ∷ more) (item ∷ more) (first ∷ put_item key item more)

-- The list without the item that has a key.
abbrev pub without : {A : Type 0} → (A → LinkKey) → LinkKey → List A → List A
without key sought items = filter (λ item. not (is_at key sought item)) items

-- The item that has a key is at a place: it is the one that is found, and the one that another one replaces.
pub record IsPlace {A : Type 0} (key : A → LinkKey) (items : List A) (sought : LinkKey) (i : ℕ) : Type 0 where
  pub within : i < length items
  pub found : (d : A) → find (is_at key sought) items ≡ Some (slice_index_or items i d)
  pub put : (item : A) → key item ≡ sought → put_item key item items ≡ slice_set items i item

-- No item has a key, and one that has it goes in at a place.
pub record IsGap {A : Type 0} (key : A → LinkKey) (items : List A) (sought : LinkKey) (i : ℕ) : Type 0 where
  pub within : i ≤ length items
  pub found : find (is_at key sought) items ≡ None
  pub put : (item : A) → key item ≡ sought → put_item key item items ≡ insert items i item
