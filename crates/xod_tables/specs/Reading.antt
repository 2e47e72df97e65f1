-- The rows that trees are the tables of, where there are such: what can be read is read, and then it is tested whether
-- the trees are its tables.
use Rattle.std.specs.Prelude.{ℕ, Bool, false, ◌&&◌, ◌==◌, List, [], ◌∷◌, take, drop, Option, Some, None, if◌then◌else◌}
use Rattle.std.specs.List.{slice_get}
use Rattle.std.specs.Option.{option_map, unwrap_or}
use Rattle.std.specs.Int.{w32, w64, from_be_bytes, cast_signed}
use Rattle.std.specs.Ordering.{nat_cmp}
use Rattle.std.specs.Cmp.Lexicographic.{pointwise}
use Rattle.std.specs.FinMap.{empty, entries, values}
use Rattle.xod_base.specs.declared.value.EntityId.{EntityId}
use Rattle.xod_base.specs.declared.value.Value.{Value}
use Rattle.xod_base.specs.declared.value.Value.TheVariants.{Flag, Int, Text}
use Rattle.xod_base.specs.declared.answer.NameKind.{NameKind}
use Rattle.xod_base.specs.declared.answer.NameKind.TheVariants.{Kinds, Props, Links}
use Rattle.xod_base.specs.Rows.{RowsValue, Cell, LinkKey, id_cmp, cell_cmp, link_cmp, is_sound}
use Rattle.xod_base.specs.Values.{same_bytes}
use Rattle.xod_base.specs.Views.{Entry, Tree, Trees}
use Rattle.xod_carry.specs.Carry.{carry}
use Rattle.xod_tables.specs.Keys.{name_key, next_key, entity_key, cell_key, join_key}
use Rattle.xod_tables.specs.Tables.{names_tree, numbers_tree, next_tree, entities_tree, properties_tree, index_tree, links_tree, back_tree}
use Rattle.xod_tables.specs.declared.trees.TheConstants.{NAMES, NUMBERS, NEXT, ENTITIES, PROPERTIES, INDEX, LINKS, BACK}

-- ---- bytes that are read

-- the number that four bytes spell
abbrev pub of_u32 : List ℕ → ℕ
of_u32 bytes = from_be_bytes w32 bytes

-- the number that eight bytes spell
abbrev pub of_u64 : List ℕ → ℕ
of_u64 bytes = from_be_bytes w64 bytes

-- whether something is written as these bytes
abbrev pub is_written : Option (List ℕ) → List ℕ → Bool
is_written None bytes = false
is_written (Some written) bytes = same_bytes written bytes

-- what bytes were read as, where that is written as these very bytes, and else nothing
abbrev pub only_written : {K : Type 0} → (K → Option (List ℕ)) → List ℕ → Option K → Option K
only_written key_of bytes None = None
only_written key_of bytes (Some read) = if is_written (key_of read) bytes then Some read else None

-- the id at the front of bytes
abbrev pub id_at : List ℕ → EntityId
id_at bytes = record { kind = of_u32 (take 4 bytes); local = of_u32 (take 4 (drop 4 bytes)) }

-- The value that stored bytes stand for. Bytes that are none are taken for some value, and then they are not what is
-- stored for it.
abbrev pub value_in : List ℕ → Value
value_in [] = Flag false
value_in (first ∷ rest) =
    if first == 1 then Flag (same_bytes rest (1 ∷ []))
    else if first == 2 then Int (cast_signed w64 (of_u64 rest))
    else Text rest

-- ---- keys that are read; a key that is not written so is none

-- the number in a key of a list of names
abbrev pub number_in : NameKind → List ℕ → Option ℕ
number_in list key = only_written (λ number. Some (name_key list number)) key (Some (of_u32 (drop 1 key)))

-- the type of a next number
abbrev pub kind_in : List ℕ → Option ℕ
kind_in key = only_written (λ kind. Some (next_key kind)) key (Some (of_u32 key))

-- the entity
abbrev pub id_in : List ℕ → Option EntityId
id_in key = only_written (λ id. Some (entity_key id)) key (Some (id_at key))

-- the property of an entity
abbrev pub cell_in : List (List ℕ) → List ℕ → Option Cell
cell_in props key = only_written (cell_key props) key (option_map (λ name. (id_at key, name)) (slice_get props (of_u32 (drop 8 key))))

-- the link
abbrev pub join_in : List (List ℕ) → List ℕ → Option LinkKey
join_in links key =
    only_written (join_key links) key
    (option_map (λ name. (id_at key, (name, id_at (drop 12 key)))) (slice_get links (of_u32 (take 4 (drop 8 key)))))

-- ---- rows that are read

-- a tree by its number, empty where it is absent
abbrev pub tree_at : Trees → ℕ → Tree
tree_at trees tree = unwrap_or (trees tree) empty

-- the names of a list, by rising number
abbrev pub names_in : NameKind → Tree → List (List ℕ)
names_in list tree = values (carry (number_in list) (λ name. name) nat_cmp tree)

-- the next local numbers, by rising type
abbrev pub nexts_in : Tree → List ℕ
nexts_in tree = values (carry kind_in of_u64 nat_cmp tree)

-- the rows that can be read from trees, whatever else stands there
abbrev pub candidate : Trees → RowsValue
candidate trees = record {
  types = names_in Kinds (tree_at trees NAMES);
  props = names_in Props (tree_at trees NAMES);
  links = names_in Links (tree_at trees NAMES);
  nexts = nexts_in (tree_at trees NEXT);
  ids = carry id_in (λ _. tt) id_cmp (tree_at trees ENTITIES);
  values = carry (cell_in (names_in Props (tree_at trees NAMES))) value_in cell_cmp (tree_at trees PROPERTIES);
  joined = carry (join_in (names_in Links (tree_at trees NAMES))) (λ _. tt) link_cmp (tree_at trees LINKS);
}

-- ---- the test

abbrev pub same_entry : Entry → Entry → Bool
same_entry entry other = same_bytes entry.0 other.0 && same_bytes entry.1 other.1

-- whether a tree is there and has the entries of another one
abbrev pub is_tree : Option Tree → Tree → Bool
is_tree None other = false
is_tree (Some tree) other = pointwise same_entry (entries tree) (entries other)

-- whether trees are the tables of rows
abbrev pub are_tables : Trees → RowsValue → Bool
are_tables trees rows =
    is_sound rows
    && is_tree (trees NAMES) (names_tree rows)
    && is_tree (trees NUMBERS) (numbers_tree rows)
    && is_tree (trees NEXT) (next_tree rows)
    && is_tree (trees ENTITIES) (entities_tree rows)
    && is_tree (trees PROPERTIES) (properties_tree rows)
    && is_tree (trees INDEX) (index_tree rows)
    && is_tree (trees LINKS) (links_tree rows)
    && is_tree (trees BACK) (back_tree rows)

-- The rows that trees are the tables of, or none.
unfoldable pub rows_of : Trees → Option RowsValue
rows_of trees = if are_tables trees (candidate trees) then Some (candidate trees) else None
