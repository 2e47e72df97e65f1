-- Whether trees are the tables of some rows, told by walks and look-ups: each tree has what the others say that it has,
-- and nothing else.
use Rattle.std.specs.Prelude.{ℕ, zero, suc, ◌+◌, Bool, false, ◌&&◌, ◌==◌, List, [], ◌∷◌, length, take, drop, Option, Some, None, is_some, nat_lt, nat_le, if◌then◌else◌}
use Rattle.std.specs.List.{list_all}
use Rattle.std.specs.FinMap.{entries, get, len}
use Rattle.xod_base.specs.declared.value.EntityId.{EntityId}
use Rattle.xod_base.specs.declared.value.Value.{Value}
use Rattle.xod_base.specs.declared.answer.NameKind.{NameKind}
use Rattle.xod_base.specs.declared.answer.NameKind.TheVariants.{Kinds, Props, Links}
use Rattle.xod_base.specs.declared.limits.TheConstants.{LONGEST_TEXT, MOST_LOCALS, MOST_NAMES}
use Rattle.xod_base.specs.Rows.{is_drawn, is_name, text_length}
use Rattle.xod_base.specs.Values.{key_of, same_bytes}
use Rattle.xod_base.specs.Views.{Entry, Tree, Trees}
use Rattle.xod_carry.specs.Carry.{numbered}
use Rattle.xod_tables.specs.Keys.{u32, u64, name_key, number_key, next_key, entity_key, property_key, index_key, link_key, back_key}
use Rattle.xod_tables.specs.Reading.{of_u32, of_u64, is_written, only_written, id_at, id_in, tree_at}
use Rattle.xod_tables.specs.declared.trees.TheConstants.{NAMES, NUMBERS, NEXT, ENTITIES, PROPERTIES, INDEX, LINKS, BACK}
use Rattle.xod_keys.specs.Pieces.{value_read}
use Rattle.xod_keys.specs.Readings.{read_behind}

-- a test of what may be absent: what is absent fails
abbrev pub holds : {A : Type 0} → (A → Bool) → Option A → Bool
holds test None = false
holds test (Some item) = test item

-- ---- names

-- a name before those that follow it, where there is one
abbrev pub then_names : Option (List ℕ) → List (List ℕ) → List (List ℕ)
then_names None more = []
then_names (Some name) more = name ∷ more

-- the names of a list from a number on, up to the first number that has none, and no more than there is room for
unfoldable pub names_from : Tree → NameKind → ℕ → ℕ → List (List ℕ)
names_from tree list zero number = []
names_from tree list (suc room) number = then_names (get tree (name_key list number)) (names_from tree list room (suc number))

-- the names of a list
abbrev pub names_listed : NameKind → Tree → List (List ℕ)
names_listed list tree = names_from tree list MOST_NAMES 0

-- the number of names of all three lists
abbrev pub name_count : Tree → ℕ
name_count names = length (names_listed Kinds names) + (length (names_listed Props names) + length (names_listed Links names))

-- the names are names, and the tree has nothing else
abbrev pub names_fit : Tree → Bool
names_fit names =
    list_all is_name (names_listed Kinds names) && list_all is_name (names_listed Props names) && list_all is_name (names_listed Links names)
    && (len names == name_count names)

-- each name of a list has its number
abbrev pub numbers_stand : Tree → NameKind → List (List ℕ) → Bool
numbers_stand numbers list names = list_all (λ entry. is_written (get numbers (number_key list entry.1)) (u32 entry.0)) (numbered 0 names)

-- each name has its number, and there is nothing else
abbrev pub numbers_fit : Tree → Tree → Bool
numbers_fit names numbers =
    numbers_stand numbers Kinds (names_listed Kinds names) && numbers_stand numbers Props (names_listed Props names) && numbers_stand numbers Links (names_listed Links names)
    && (len numbers == name_count names)

-- ---- next numbers

-- the next number that stands in eight bytes, where it is not above the highest one
unfoldable pub next_in : List ℕ → Option ℕ
next_in bytes = if is_written (Some (u64 (of_u64 bytes))) bytes && nat_le (of_u64 bytes) MOST_LOCALS then Some (of_u64 bytes) else None

-- the next number that may be at a key
abbrev pub next_there : Option (List ℕ) → Option ℕ
next_there None = None
next_there (Some bytes) = next_in bytes

-- the next numbers of as many types, from one on, where each is there
unfoldable pub nexts_from : Tree → ℕ → ℕ → Option (List ℕ)
nexts_from tree zero kind = Some []
nexts_from tree (suc left) kind = read_behind (next_there (get tree (next_key kind))) (nexts_from tree left (suc kind))

-- the next numbers of so many types, where each has one and there is nothing else
abbrev pub nexts_counted : Tree → ℕ → Option (List ℕ)
nexts_counted nexts count = if len nexts == count then nexts_from nexts count 0 else None

-- the next numbers of all types
abbrev pub nexts_listed : Tree → Tree → Option (List ℕ)
nexts_listed names nexts = nexts_counted nexts (length (names_listed Kinds names))

-- ---- entities

-- the entity in a key
unfoldable pub entity_in : List ℕ → Option EntityId
entity_in key = id_in key

-- an entry is that of an entity that was drawn
abbrev pub is_entity : List ℕ → Entry → Bool
is_entity nexts entry = holds (is_drawn nexts) (entity_in entry.0) && same_bytes entry.1 []

-- each entry is that of an entity that was drawn
abbrev pub entities_fit : Tree → List ℕ → Bool
entities_fit entities nexts = list_all (is_entity nexts) (entries entities)

-- ---- properties

-- the entity and the number in the key of a property
unfoldable pub prop_in : List ℕ → Option (EntityId × ℕ)
prop_in key = only_written (λ prop. Some (property_key prop.0 prop.1)) key (Some (id_at key, of_u32 (drop 8 key)))

-- a property has a listed number, it is one of an entity that is there, and the index has it by its value, which the
-- limits allow
abbrev pub is_property : ℕ → Tree → Tree → EntityId × ℕ → Value → Bool
is_property count entities index prop value =
    nat_lt prop.1 count && is_some (get entities (entity_key prop.0)) && nat_le (text_length value) LONGEST_TEXT
    && is_written (get index (index_key prop.0 prop.1 (key_of value))) []

-- an entry is that of such a property
abbrev pub is_property_entry : ℕ → Tree → Tree → Entry → Bool
is_property_entry count entities index entry = holds (λ prop. holds (is_property count entities index prop) (value_read entry.1)) (prop_in entry.0)

-- each entry is that of a property, and the index has as many entries
abbrev pub properties_fit : ℕ → Tree → Tree → Tree → Bool
properties_fit count entities properties index =
    list_all (is_property_entry count entities index) (entries properties) && (len index == len properties)

-- ---- links

-- the source, the number and the target in the key of a link
unfoldable pub link_in : List ℕ → Option (EntityId × (ℕ × EntityId))
link_in key = only_written (λ link. Some (link_key link.0 link.1.0 link.1.1)) key (Some (id_at key, (of_u32 (take 4 (drop 8 key)), id_at (drop 12 key))))

-- a link has a listed number, it joins entities that are there, and it stands in the tree of links by their targets
abbrev pub is_link : ℕ → Tree → Tree → EntityId × (ℕ × EntityId) → Bool
is_link count entities back link =
    nat_lt link.1.0 count && is_some (get entities (entity_key link.0)) && is_some (get entities (entity_key link.1.1))
    && is_written (get back (back_key link.0 link.1.0 link.1.1)) []

-- an entry is that of such a link
abbrev pub is_link_entry : ℕ → Tree → Tree → Entry → Bool
is_link_entry count entities back entry = holds (is_link count entities back) (link_in entry.0) && same_bytes entry.1 []

-- each entry is that of a link, and there are as many by their targets
abbrev pub links_fit : ℕ → Tree → Tree → Tree → Bool
links_fit count entities links back = list_all (is_link_entry count entities back) (entries links) && (len back == len links)

-- ---- all trees

-- all eight trees are there
abbrev pub are_there : Trees → Bool
are_there trees =
    is_some (trees NAMES) && is_some (trees NUMBERS) && is_some (trees NEXT) && is_some (trees ENTITIES)
    && is_some (trees PROPERTIES) && is_some (trees INDEX) && is_some (trees LINKS) && is_some (trees BACK)

-- eight trees are the tables of some rows
abbrev pub trees_fit : Tree → Tree → Tree → Tree → Tree → Tree → Tree → Tree → Bool
trees_fit names numbers nexts entities properties index links back =
    names_fit names && numbers_fit names numbers && holds (entities_fit entities) (nexts_listed names nexts)
    && properties_fit (length (names_listed Props names)) entities properties index
    && links_fit (length (names_listed Links names)) entities links back

-- trees are the tables of some rows
abbrev pub is_audited : Trees → Bool
is_audited trees =
    are_there trees
    && trees_fit (tree_at trees NAMES) (tree_at trees NUMBERS) (tree_at trees NEXT) (tree_at trees ENTITIES)
    (tree_at trees PROPERTIES) (tree_at trees INDEX) (tree_at trees LINKS) (tree_at trees BACK)
