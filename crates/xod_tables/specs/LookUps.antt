-- What the tables of rows have at each key.
use Rattle.std.specs.Prelude.{◌≡◌, ◌<◌, ◌^◌, ℕ, Bool, false, List, [], Option, Some, None, is_some}
use Rattle.std.specs.List.{slice_get}
use Rattle.std.specs.Option.{option_map}
use Rattle.std.specs.FinMap.{entries, get}
use Rattle.xod_base.specs.declared.value.EntityId.{EntityId}
use Rattle.xod_base.specs.declared.value.Value.{Value}
use Rattle.xod_base.specs.declared.answer.NameKind.{NameKind}
use Rattle.xod_base.specs.declared.answer.NameKind.TheVariants.{Kinds, Props, Links}
use Rattle.xod_base.specs.Rows.{RowsValue, number_of}
use Rattle.xod_base.specs.Values.{has_key}
use Rattle.xod_carry.specs.Carry.{carried}
use Rattle.xod_tables.specs.Keys.{IsShort, u32, u64, name_key, number_key, next_key, entity_key, property_key, index_key, link_key, back_key, stored}
use Rattle.xod_tables.specs.Tables.{names_tree, numbers_tree, next_tree, entities_tree, properties_tree, index_tree, links_tree, back_tree}

-- the list of names of a kind
abbrev pub names_of : RowsValue → NameKind → List (List ℕ)
names_of rows Kinds = rows.types
names_of rows Props = rows.props
names_of rows Links = rows.links

-- whether a value that may be absent has a key
abbrev pub option_has_key : List ℕ → Option Value → Bool
option_has_key key None = false
option_has_key key (Some value) = has_key key value

-- Each tree answers for the rows: at the key of a name, of a number, of an entity, of a property or of a link stands what
-- the rows have there, and in the index stands an entity under exactly the keys of its value. The entities are in the
-- tree in their own order.
pub record TreesAnswer (rows : RowsValue) : Type 0 where
  pub numbers : (list : NameKind) (name : List ℕ)
      → get (numbers_tree rows) (number_key list name) ≡ option_map u32 (number_of (names_of rows list) name)
  pub names : (list : NameKind) (number : ℕ) → number < 2 ^ 32
      → get (names_tree rows) (name_key list number) ≡ slice_get (names_of rows list) number
  pub nexts : (kind : ℕ) → kind < 2 ^ 32
      → get (next_tree rows) (next_key kind) ≡ option_map u64 (slice_get rows.nexts kind)
  pub entities : (id : EntityId) → IsShort id
      → get (entities_tree rows) (entity_key id) ≡ option_map (λ _. []) (get rows.ids id)
  pub rising : entries (entities_tree rows) ≡ carried (λ id. Some (entity_key id)) (λ _. []) (entries rows.ids)
  pub properties : (id : EntityId) (name : List ℕ) (prop : ℕ) → IsShort id → number_of rows.props name ≡ Some prop
      → get (properties_tree rows) (property_key id prop) ≡ option_map stored (get rows.values (id, name))
  pub indexed : (id : EntityId) (name : List ℕ) (prop : ℕ) (key : List ℕ) → IsShort id → number_of rows.props name ≡ Some prop
      → is_some (get (index_tree rows) (index_key id prop key)) ≡ option_has_key key (get rows.values (id, name))
  pub linked : (source : EntityId) (name : List ℕ) (link : ℕ) (target : EntityId) → IsShort source → IsShort target → number_of rows.links name ≡ Some link
      → get (links_tree rows) (link_key source link target) ≡ option_map (λ _. []) (get rows.joined (source, (name, target)))
  pub linked_back : (source : EntityId) (name : List ℕ) (link : ℕ) (target : EntityId) → IsShort source → IsShort target → number_of rows.links name ≡ Some link
      → get (back_tree rows) (back_key source link target) ≡ option_map (λ _. []) (get rows.joined (source, (name, target)))
