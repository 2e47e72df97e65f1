-- Trees and the rows that they are the tables of, and the keys of trees: their orders, and that they are apart.
use Rattle.std.specs.Prelude.{◌≡◌, ◌↔◌, ◌<◌, ◌^◌, ℕ, IsTrue, List, ◌++◌, Some}
use Rattle.std.specs.FinMap.{empty}
use Rattle.std.specs.Ordering.{nat_cmp, ordering_then}
use Rattle.xod_base.specs.declared.value.EntityId.{EntityId}
use Rattle.xod_base.specs.declared.answer.NameKind.{NameKind}
use Rattle.xod_base.specs.Rows.{RowsValue, id_cmp, is_sound, no_rows}
use Rattle.xod_base.specs.Values.{bytes_cmp}
use Rattle.xod_base.specs.Views.{Trees}
use Rattle.xod_dup.specs.Joining.{ShowTheirEnds}
use Rattle.xod_tables.specs.Keys.{IsShort, u32, id_bytes, name_key, entity_key, property_key, index_key, link_key}
use Rattle.xod_tables.specs.Tables.{AreTables, trees_of}
use Rattle.xod_tables.specs.LookUps.{TreesAnswer}
use Rattle.xod_tables.specs.Reading.{rows_of, are_tables}

-- the rows that trees are the tables of are those that are read from them
abbrev pub RowsAreReadExactly : Type 0
RowsAreReadExactly = (trees : Trees) (rows : RowsValue) → (rows_of trees ≡ Some rows) ↔ AreTables trees rows

-- trees are the tables of one rows at most
abbrev pub OneRows : Type 0
OneRows = (trees : Trees) (rows other : RowsValue) → AreTables trees rows → AreTables trees other → rows ≡ other

-- sound rows have tables
abbrev pub SoundRowsHaveTables : Type 0
SoundRowsHaveTables = (rows : RowsValue) → IsTrue (is_sound rows) → AreTables (trees_of rows) rows

-- empty trees are the tables of the store without contents
abbrev pub EmptyTreesAreNoRows : Type 0
EmptyTreesAreNoRows = (trees : Trees) → ((tree : ℕ) → trees tree ≡ Some empty) → AreTables trees no_rows

-- the trees of sound rows answer for them
abbrev pub SoundTreesAnswer : Type 0
SoundTreesAnswer = (rows : RowsValue) → IsTrue (is_sound rows) → TreesAnswer rows

-- the test answers whether trees are the tables of rows
abbrev pub TablesAreTested : Type 0
TablesAreTested = (trees : Trees) (rows : RowsValue) → IsTrue (are_tables trees rows) ↔ AreTables trees rows

-- Bytes with a number before them, or an id: these decide and, where they are equal, what follows.
pub record FrontsDecide : Type 0 where
  pub numbers : (number other : ℕ) (behind more : List ℕ) → number < 2 ^ 32 → other < 2 ^ 32
      → bytes_cmp (u32 number ++ behind) (u32 other ++ more) ≡ ordering_then (nat_cmp number other) (bytes_cmp behind more)
  pub ids : (id other : EntityId) (behind more : List ℕ) → IsShort id → IsShort other
      → bytes_cmp (id_bytes id ++ behind) (id_bytes other ++ more) ≡ ordering_then (id_cmp id other) (bytes_cmp behind more)

-- The keys of each tree rise as what they are made of: part by part, the first one that differs decides.
pub record KeysRise : Type 0 where
  pub names : (list : NameKind) (number other : ℕ) → number < 2 ^ 32 → other < 2 ^ 32
      → bytes_cmp (name_key list number) (name_key list other) ≡ nat_cmp number other
  pub entities : (id other : EntityId) → IsShort id → IsShort other
      → bytes_cmp (entity_key id) (entity_key other) ≡ id_cmp id other
  pub properties : (id other : EntityId) (prop next : ℕ) → IsShort id → IsShort other → prop < 2 ^ 32 → next < 2 ^ 32
      → bytes_cmp (property_key id prop) (property_key other next) ≡ ordering_then (id_cmp id other) (nat_cmp prop next)
  pub index : (id other : EntityId) (prop next : ℕ) (key more : List ℕ) → IsShort id → IsShort other → prop < 2 ^ 32 → next < 2 ^ 32 → ShowTheirEnds key more
      → bytes_cmp (index_key id prop key) (index_key other next more)
      ≡ ordering_then (nat_cmp id.kind other.kind) (ordering_then (nat_cmp prop next) (ordering_then (bytes_cmp key more) (nat_cmp id.local other.local)))
  pub links : (source other : EntityId) (link next : ℕ) (target end : EntityId) → IsShort source → IsShort other → link < 2 ^ 32 → next < 2 ^ 32 → IsShort target → IsShort end
      → bytes_cmp (link_key source link target) (link_key other next end) ≡ ordering_then (id_cmp source other) (ordering_then (nat_cmp link next) (id_cmp target end))

-- Equal keys are made of the same, but for the keys of values, of which an entity may have several.
pub record KeysAreApart : Type 0 where
  pub properties : (id other : EntityId) (prop next : ℕ) → IsShort id → IsShort other → prop < 2 ^ 32 → next < 2 ^ 32
      → property_key id prop ≡ property_key other next → (id ≡ other) × (prop ≡ next)
  pub index : (id other : EntityId) (prop next : ℕ) (key more : List ℕ) → IsShort id → IsShort other → prop < 2 ^ 32 → next < 2 ^ 32
      → index_key id prop key ≡ index_key other next more → (id ≡ other) × (prop ≡ next)
  pub links : (source other : EntityId) (link next : ℕ) (target end : EntityId) → IsShort source → IsShort other → link < 2 ^ 32 → next < 2 ^ 32 → IsShort target → IsShort end
      → link_key source link target ≡ link_key other next end → (source ≡ other) × (link ≡ next) × (target ≡ end)
