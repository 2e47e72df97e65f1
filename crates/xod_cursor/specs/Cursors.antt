-- What a cursor is still to give, and where the branches of its path stand.
use Rattle.std.specs.Prelude.{◌≡◌, ◌<◌, ℕ, List, [], ◌∷◌, ◌++◌, ◌-◌, drop, length, slice_get, Option, Some, None, Result, Ok, Err, option_map}
use Rattle.std.specs.List.{AllByRecursion}
use Rattle.xod_base.specs.declared.causes.ReadError.{ReadError}
use Rattle.xod_base.specs.declared.pair.Pair.{Pair}
use Rattle.xod_base.specs.Views.{Entry}
use Rattle.xod_block.specs.declared.address.Address.{Address}
use Rattle.xod_block.specs.Addresses.{number_of}
use Rattle.xod_block.specs.Maps.{RecordsAt, under, joined, map_at}
use Rattle.xod_block.specs.Reading.{links_in}
use Rattle.xod_block.specs.Records.{Link}
use Rattle.xod_trie.specs.Branches.{branch_of}
use Rattle.xod_trie.specs.Damage.{IsReached}
use Rattle.xod_cursor.specs.declared.cursor.Cursor.{Cursor}
use Rattle.xod_cursor.specs.declared.enter.Entered.{Entered}
use Rattle.xod_cursor.specs.declared.enter.Entered.TheVariants as entered
use Rattle.xod_cursor.specs.declared.rung.Rung.{Rung}
use Rattle.xod_cursor.specs.Wants.{HasChildren, entries_under}

-- ---- entries, each behind a front; none of them are known where a branch that is reached is not there

-- those at an address
abbrev pub entries_at : RecordsAt → List ℕ → Address → Option (List Entry)
entries_at records front at = option_map (under front) (map_at records (number_of at))

-- those under some children of the branch at an address
abbrev pub children_entries : RecordsAt → Address → List ℕ → List Link → Option (List Entry)
children_entries records at front children = option_map (under front) (entries_under records (number_of at) children)

-- those under the children of a branch that are left
abbrev pub rung_entries : RecordsAt → Rung → Option (List Entry)
rung_entries records rung = children_entries records rung.at rung.front (drop rung.place (links_in rung.links))

-- of a branch of which nothing may be left
abbrev pub left_entries : RecordsAt → Option Rung → Option (List Entry)
left_entries records None = Some []
left_entries records (Some rung) = rung_entries records rung

-- those of a path, the deepest branch first
abbrev pub path_entries : RecordsAt → List Rung → Option (List Entry)
path_entries records [] = Some []
path_entries records (rung ∷ deeper) = joined (path_entries records deeper) (rung_entries records rung)

-- a pair, and then entries
abbrev pub behind_pair : Pair → Option (List Entry) → Option (List Entry)
behind_pair pair entries = option_map (λ others. (pair.key, pair.value) ∷ others) entries

abbrev pub entered_entries : RecordsAt → Entered → Option (List Entry)
entered_entries records (entered.Own pair left) = behind_pair pair (left_entries records left)
entered_entries records (entered.Below rung) = rung_entries records rung

-- ---- a cursor

abbrev pub behind_first : Option Pair → Option (List Entry) → Option (List Entry)
behind_first None entries = entries
behind_first (Some pair) entries = behind_pair pair entries

-- the entries that are still to be given
abbrev pub coming : RecordsAt → Cursor → Option (List Entry)
coming records cursor = behind_first cursor.first (path_entries records cursor.path.items)

-- What a step does to the entries that are to come: it gives the first of them, and the others are to come. It gives
-- none only where none is to come, and after an error all are still to come.
abbrev pub Steps : Option (List Entry) → Option (List Entry) → Result (Option Pair) ReadError → Type 0
Steps before now (Ok None) = (before ≡ Some []) × (now ≡ Some [])
Steps before now (Ok (Some pair)) = before ≡ behind_pair pair now
Steps before now (Err error) = now ≡ before

-- a branch of a path is reached from the root, and its children are those of its record
pub record StandsAt (records : RecordsAt) (root : Option Address) (rung : Rung) : Type 0 where
  pub reached : IsReached records root rung.at
  pub children : HasChildren (records (number_of rung.at)) (links_in rung.links)

abbrev pub StandsLeft : RecordsAt → Option Address → Option Rung → Type 0
StandsLeft records root None = Unit {0}
StandsLeft records root (Some rung) = StandsAt records root rung

abbrev pub StandsEntered : RecordsAt → Option Address → Entered → Type 0
StandsEntered records root (entered.Own pair left) = StandsLeft records root left
StandsEntered records root (entered.Below rung) = StandsAt records root rung

abbrev pub StandsOn : RecordsAt → Option Address → List Rung → Type 0
StandsOn records root path = AllByRecursion (StandsAt records root) path

-- so does each branch on the path of a cursor
abbrev pub Stands : RecordsAt → Option Address → Cursor → Type 0
Stands records root cursor = StandsOn records root cursor.path.items

-- ---- one step down

-- a branch from a place among its links on
pub record IsRung (at : Address) (front links : List ℕ) (place : ℕ) (rung : Rung) : Type 0 where
  pub at_is : rung.at ≡ at
  pub front_is : rung.front ≡ front
  pub links_are : rung.links ≡ links
  pub place_is : rung.place ≡ place

-- what was read at an address: all its entries, or that there is no leaf or node
abbrev pub IsEntered : RecordsAt → List ℕ → Address → Option Entered → Type 0
IsEntered records front at None = branch_of (records (number_of at)) ≡ None
IsEntered records front at (Some whole) = entered_entries records whole ≡ entries_at records front at

-- a branch of which children are left is the one at an address
abbrev pub IsFrom : Address → Entered → Type 0
IsFrom at (entered.Own pair left) = Unit {0}
IsFrom at (entered.Below rung) = rung.at ≡ at

-- the next child of a branch
pub record IsNextChild (rung : Rung) (child : Link) : Type 0 where
  pub there : slice_get (links_in rung.links) rung.place ≡ Some child
  pub lower : number_of child.1 < number_of rung.at

-- the whole branch of the next child
pub record IsNext (records : RecordsAt) (rung : Rung) (whole : Entered) : Type 0 where
  pub child : Link
  pub next : IsNextChild rung child
  pub entries : entered_entries records whole ≡ entries_at records (rung.front ++ child.0 ∷ []) child.1

-- a branch of which children are left is below an address
abbrev pub IsLower : Address → Entered → Type 0
IsLower at (entered.Own pair left) = Unit {0}
IsLower at (entered.Below rung) = number_of rung.at < number_of at

-- the last branch of a path
abbrev pub last_of : List Rung → Option Rung
last_of path = slice_get path (length path - 1)

-- the entries of a child were those of a path before all others, and in their place are those of what is left of it
pub record MovesDown (records : RecordsAt) (rung : Rung) (child : Link) (left : Option Rung) (old new : List Rung) : Type 0 where
  pub later : Option (List Entry)
  pub before : path_entries records old ≡ joined (entries_at records (rung.front ++ child.0 ∷ []) child.1) later
  pub now : path_entries records new ≡ joined (left_entries records left) later
