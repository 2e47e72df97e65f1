-- What readers of tables read, each in one tree, whatever else stands there: by one key, or by the keys of a range.
use Rattle.std.specs.Prelude.{◌≡◌, ◌<◌, ◌≤◌, ◌-◌, ◌^◌, ℕ, List, [], ◌∷◌, ◌++◌, Option, Some, None, IsSome}
use Rattle.std.specs.FinMap.{get}
use Rattle.std.specs.Option.{option_map}
use Rattle.xod_base.specs.declared.value.EntityId.{EntityId}
use Rattle.xod_base.specs.declared.value.Value.{Value}
use Rattle.xod_base.specs.declared.answer.NameKind.{NameKind}
use Rattle.xod_base.specs.declared.limits.TheConstants.{MOST_NAMES}
use Rattle.xod_base.specs.Evaluation.{rising}
use Rattle.xod_base.specs.Views.{Entry, Tree}
use Rattle.xod_tables.specs.Keys.{u32, name_key, number_key, next_key, entity_key, property_key, link_key}
use Rattle.xod_range.specs.Ranges.{in_range}
use Rattle.xod_keys.specs.Pieces.{number_read, next_read, name_read, id_read, prop_read, link_read, entry_read, value_read}

-- ---- lists of which each item must be readable

-- an item before a list, where both were read
abbrev pub read_behind : {A : Type 0} → Option A → Option (List A) → Option (List A)
read_behind None others = None
read_behind (Some item) others = option_map (λ list. item ∷ list) others

-- each entry as it is read, or nothing where one can't be read
abbrev pub all_read : {A : Type 0} → (Entry → Option A) → List Entry → Option (List A)
all_read read [] = Some []
all_read read (entry ∷ others) = read_behind (read entry) (all_read read others)

-- what is read where something stands; where nothing stands, that is read
abbrev pub read_there : {A : Type 0} → (List ℕ → Option A) → Option (List ℕ) → Option (Option A)
read_there read None = Some None
read_there read (Some bytes) = option_map (λ found. Some found) (read bytes)

-- ---- the highest numbers, with which ranges end

-- the highest number of four bytes
abbrev pub LAST : ℕ
LAST = 2 ^ 32 - 1

abbrev pub first_id : EntityId
first_id = record { kind = 0; local = 0 }

abbrev pub last_id : EntityId
last_id = record { kind = LAST; local = LAST }

-- ---- names

-- the number of a name
abbrev pub number_at : NameKind → List ℕ → Tree → Option (Option ℕ)
number_at list name tree = read_there number_read (get tree (number_key list name))

-- the name with a number
abbrev pub name_at : NameKind → ℕ → Tree → Option (Option (List ℕ))
name_at list number tree = read_there name_read (get tree (name_key list number))

-- all names of a list, by rising number
abbrev pub names_at : NameKind → Tree → Option (List (List ℕ))
names_at list tree = all_read (λ entry. name_read entry.1) (in_range (name_key list 0) (name_key list LAST) tree)

-- a number that ends a list of names: one below it has a name or there is none below, and it has none itself
pub record IsNamesEnd (list : NameKind) (tree : Tree) (number : ℕ) : Type 0 where
  pub most : number ≤ MOST_NAMES
  pub below : 0 < number → IsSome (get tree (name_key list (number - 1)))
  pub above : number < MOST_NAMES → get tree (name_key list number) ≡ None

-- ---- entities

-- a type's next local number, 0 where the type is not there
abbrev pub next_at : ℕ → Tree → Option ℕ
next_at kind tree = next_where (get tree (next_key kind))
  where
    next_where : Option (List ℕ) → Option ℕ
    next_where None = Some 0
    next_where (Some bytes) = next_read bytes

-- the entities of a type, rising
abbrev pub ids_at : ℕ → Tree → Option (List EntityId)
ids_at kind tree =
    all_read (λ entry. id_read entry.0)
    (in_range (entity_key (record { kind = kind; local = 0 })) (entity_key (record { kind = kind; local = LAST })) tree)

-- ---- properties

-- the value of a property
abbrev pub value_at : EntityId → ℕ → Tree → Option (Option Value)
value_at id prop tree = read_there value_read (get tree (property_key id prop))

-- a property's number with its value
abbrev pub numbered_read : Entry → Option (ℕ × Value)
numbered_read entry = both (prop_read entry.0) (value_read entry.1)
  where
    both : Option ℕ → Option Value → Option (ℕ × Value)
    both None value = None
    both (Some number) value = option_map (λ found. (number, found)) value

-- the properties of an entity, by rising number
abbrev pub values_at : EntityId → Tree → Option (List (ℕ × Value))
values_at id tree = all_read numbered_read (in_range (property_key id 0) (property_key id LAST) tree)

-- the entities of a type that the index has under keys of a property's values from a low one to a high one, rising
abbrev pub ids_between : ℕ → ℕ → List ℕ → List ℕ → Tree → Option (List EntityId)
ids_between kind prop low high tree =
    option_map rising
    (all_read (λ entry. entry_read entry.0)
    (in_range (u32 kind ++ (u32 prop ++ low)) (u32 kind ++ (u32 prop ++ (high ++ u32 LAST))) tree))

-- ---- links; by the sources, and in the tree of links by their targets the other way round

-- the entities at the other ends of an entity's links with a number, rising
abbrev pub ends_at : EntityId → ℕ → Tree → Option (List EntityId)
ends_at id link tree =
    all_read (λ entry. option_map (λ found. found.1) (link_read entry.0)) (in_range (link_key id link first_id) (link_key id link last_id) tree)

-- all links of an entity, each with its number and the entity at its other end, in the order of both
abbrev pub links_at : EntityId → Tree → Option (List (ℕ × EntityId))
links_at id tree = all_read (λ entry. link_read entry.0) (in_range (link_key id 0 first_id) (link_key id LAST last_id) tree)
