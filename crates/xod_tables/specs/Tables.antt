-- The tables of rows: for each of eight trees, which map it is.
use Rattle.std.specs.Prelude.{◌≡◌, ℕ, IsTrue, List, [], ◌++◌, map, Some, nat_eq, if◌then◌else◌}
use Rattle.std.specs.FinMap.{empty, from_entries}
use Rattle.xod_base.specs.declared.answer.NameKind.{NameKind}
use Rattle.xod_base.specs.declared.answer.NameKind.TheVariants.{Kinds, Props, Links}
use Rattle.xod_base.specs.Rows.{RowsValue, is_sound}
use Rattle.xod_base.specs.Values.{bytes_cmp}
use Rattle.xod_base.specs.Views.{Entry, Tree, Trees}
use Rattle.xod_carry.specs.Carry.{carried, carry, numbered}
use Rattle.xod_carry.specs.Index.{index}
use Rattle.xod_tables.specs.Keys.{u32, u64, name_key, number_key, next_key, entity_key, cell_key, stored, index_entries, join_key, join_back_key}
use Rattle.xod_tables.specs.declared.trees.TheConstants.{NAMES, NUMBERS, NEXT, ENTITIES, PROPERTIES, INDEX, LINKS, BACK}

-- the names of a list, each at its number
abbrev pub by_number : NameKind → List (List ℕ) → List Entry
by_number list names = carried (λ number. Some (name_key list number)) (λ name. name) (numbered 0 names)

-- the numbers of a list, each at its name
abbrev pub by_name : NameKind → List (List ℕ) → List Entry
by_name list names = map (λ entry. (number_key list entry.1, u32 entry.0)) (numbered 0 names)

-- the names of all three lists, each at its list and number
abbrev pub names_tree : RowsValue → Tree
names_tree rows = from_entries (by_number Kinds rows.types ++ (by_number Props rows.props ++ by_number Links rows.links))

-- the numbers of all three lists, each at its list and name
abbrev pub numbers_tree : RowsValue → Tree
numbers_tree rows = from_entries (by_name Kinds rows.types ++ (by_name Props rows.props ++ by_name Links rows.links))

-- each type's next local number, at the type's number
abbrev pub next_tree : RowsValue → Tree
next_tree rows = from_entries (carried (λ kind. Some (next_key kind)) u64 (numbered 0 rows.nexts))

-- the entities, each at its id, with nothing there
abbrev pub entities_tree : RowsValue → Tree
entities_tree rows = carry (λ id. Some (entity_key id)) (λ _. []) bytes_cmp rows.ids

-- the values as they are stored, each at its entity and property
abbrev pub properties_tree : RowsValue → Tree
properties_tree rows = carry (cell_key rows.props) stored bytes_cmp rows.values

-- the keys of the values, each joined with the entity that has it
abbrev pub index_tree : RowsValue → Tree
index_tree rows = index (index_entries rows.props) bytes_cmp rows.values

-- the links, each at its source
abbrev pub links_tree : RowsValue → Tree
links_tree rows = carry (join_key rows.links) (λ _. []) bytes_cmp rows.joined

-- the links, each at its target
abbrev pub back_tree : RowsValue → Tree
back_tree rows = carry (join_back_key rows.links) (λ _. []) bytes_cmp rows.joined

-- Trees are the tables of rows: the rows are sound, and each of the eight trees is the one that they have there.
pub record AreTables (trees : Trees) (rows : RowsValue) : Type 0 where
  pub sound : IsTrue (is_sound rows)
  pub names : trees NAMES ≡ Some (names_tree rows)
  pub numbers : trees NUMBERS ≡ Some (numbers_tree rows)
  pub nexts : trees NEXT ≡ Some (next_tree rows)
  pub entities : trees ENTITIES ≡ Some (entities_tree rows)
  pub properties : trees PROPERTIES ≡ Some (properties_tree rows)
  pub indexed : trees INDEX ≡ Some (index_tree rows)
  pub linked : trees LINKS ≡ Some (links_tree rows)
  pub linked_back : trees BACK ≡ Some (back_tree rows)

-- the trees of rows, by number; each other tree is empty
abbrev pub trees_of : RowsValue → Trees
trees_of rows tree =
    if nat_eq tree NAMES then Some (names_tree rows)
    else if nat_eq tree NUMBERS then Some (numbers_tree rows)
    else if nat_eq tree NEXT then Some (next_tree rows)
    else if nat_eq tree ENTITIES then Some (entities_tree rows)
    else if nat_eq tree PROPERTIES then Some (properties_tree rows)
    else if nat_eq tree INDEX then Some (index_tree rows)
    else if nat_eq tree LINKS then Some (links_tree rows)
    else if nat_eq tree BACK then Some (back_tree rows)
    else Some empty
