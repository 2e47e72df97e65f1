-- What is read in the tables of sound rows is what the rows have.
use Rattle.std.specs.Prelude.{◌≡◌, ◌<◌, ◌^◌, ℕ, IsTrue, List, [], ◌++◌, Some, length, is_some}
use Rattle.std.specs.List.{filter, slice_get}
use Rattle.std.specs.FinMap.{get}
use Rattle.xod_base.specs.declared.value.EntityId.{EntityId}
use Rattle.xod_base.specs.declared.value.Value.{Value}
use Rattle.xod_base.specs.declared.answer.NameKind.{NameKind}
use Rattle.xod_base.specs.Evaluation.{has_value, ids_with_number, targets_of}
use Rattle.xod_base.specs.Rows.{RowsValue, is_sound, next_of, number_of}
use Rattle.xod_base.specs.Values.{has_key_within, is_value, key_of}
use Rattle.xod_tables.specs.Keys.{IsShort, entity_key, link_key}
use Rattle.xod_tables.specs.LookUps.{names_of}
use Rattle.xod_tables.specs.Tables.{names_tree, numbers_tree, next_tree, entities_tree, properties_tree, index_tree, links_tree, back_tree}
use Rattle.xod_readings.specs.Lists.{numbered_values, numbered_targets, numbered_sources, sources_of}
use Rattle.xod_keys.specs.Readings.{IsNamesEnd, number_at, name_at, names_at, next_at, ids_at, value_at, values_at, ids_between, ends_at, links_at}

-- names and their numbers
pub record NamesAreRead (rows : RowsValue) : Type 0 where
  pub number : (list : NameKind) (name : List ℕ) → number_at list name (numbers_tree rows) ≡ Some (number_of (names_of rows list) name)
  pub name : (list : NameKind) (number : ℕ) → number < 2 ^ 32 → name_at list number (names_tree rows) ≡ Some (slice_get (names_of rows list) number)
  pub all : (list : NameKind) → names_at list (names_tree rows) ≡ Some (names_of rows list)
  pub end : (list : NameKind) (number : ℕ) → IsNamesEnd list (names_tree rows) number → number ≡ length (names_of rows list)

-- entities and next numbers
pub record EntitiesAreRead (rows : RowsValue) : Type 0 where
  pub has : (id : EntityId) → IsShort id → is_some (get (entities_tree rows) (entity_key id)) ≡ is_some (get rows.ids id)
  pub next : (kind : ℕ) → kind < 2 ^ 32 → next_at kind (next_tree rows) ≡ Some (next_of rows.nexts kind)
  pub all : (kind : ℕ) → kind < 2 ^ 32 → ids_at kind (entities_tree rows) ≡ Some (ids_with_number rows (Some kind))

-- no key of a value is a proper front of a bound
abbrev pub IsBound : List ℕ → Type 0
IsBound bound = (value : Value) (rest : List ℕ) → IsTrue (is_value value) → bound ≡ key_of value ++ rest → rest ≡ []

-- and a bound from above is no proper front of a key of a value: such a key is above it
pub record IsHighBound (bound : List ℕ) : Type 0 where
  pub is_bound : IsBound bound
  pub fronts_none : (value : Value) (rest : List ℕ) → IsTrue (is_value value) → key_of value ≡ bound ++ rest → rest ≡ []

-- properties, and entities by their values
pub record PropsAreRead (rows : RowsValue) : Type 0 where
  pub value : (id : EntityId) (name : List ℕ) (prop : ℕ) → IsShort id → number_of rows.props name ≡ Some prop
      → value_at id prop (properties_tree rows) ≡ Some (get rows.values (id, name))
  pub all : (id : EntityId) → IsShort id → values_at id (properties_tree rows) ≡ Some (numbered_values rows id)
  pub between : (kind : ℕ) (name : List ℕ) (prop : ℕ) (low high : List ℕ) → kind < 2 ^ 32 → number_of rows.props name ≡ Some prop → IsBound low → IsHighBound high
      → ids_between kind prop low high (index_tree rows) ≡ Some (filter (has_value rows name (has_key_within low high)) (ids_with_number rows (Some kind)))

-- links, from both ends
pub record LinksAreRead (rows : RowsValue) : Type 0 where
  pub linked : (source : EntityId) (name : List ℕ) (link : ℕ) (target : EntityId) → IsShort source → IsShort target → number_of rows.links name ≡ Some link
      → is_some (get (links_tree rows) (link_key source link target)) ≡ is_some (get rows.joined (source, (name, target)))
  pub targets : (source : EntityId) (name : List ℕ) (link : ℕ) → IsShort source → number_of rows.links name ≡ Some link
      → ends_at source link (links_tree rows) ≡ Some (targets_of rows name source)
  pub sources : (target : EntityId) (name : List ℕ) (link : ℕ) → IsShort target → number_of rows.links name ≡ Some link
      → ends_at target link (back_tree rows) ≡ Some (sources_of rows name target)
  pub out : (source : EntityId) → IsShort source → links_at source (links_tree rows) ≡ Some (numbered_targets rows source)
  pub into : (target : EntityId) → IsShort target → links_at target (back_tree rows) ≡ Some (numbered_sources rows target)

abbrev pub NamesOfRowsAreRead : Type 0
NamesOfRowsAreRead = (rows : RowsValue) → IsTrue (is_sound rows) → NamesAreRead rows

abbrev pub EntitiesOfRowsAreRead : Type 0
EntitiesOfRowsAreRead = (rows : RowsValue) → IsTrue (is_sound rows) → EntitiesAreRead rows

abbrev pub PropsOfRowsAreRead : Type 0
PropsOfRowsAreRead = (rows : RowsValue) → IsTrue (is_sound rows) → PropsAreRead rows

abbrev pub LinksOfRowsAreRead : Type 0
LinksOfRowsAreRead = (rows : RowsValue) → IsTrue (is_sound rows) → LinksAreRead rows

-- the key of a value is a bound from both sides, so what has a value's key is found under that key alone
abbrev pub KeysAreBounds : Type 0
KeysAreBounds = (value : Value) → IsTrue (is_value value) → IsHighBound (key_of value)
