-- The keys and the values of a store's trees, as bytes.
use Rattle.std.specs.Prelude.{ℕ, ◌<◌, ◌^◌, List, [], ◌∷◌, ◌++◌, map, Option, Some, None, if◌then◌else◌}
use Rattle.std.specs.Option.{option_map}
use Rattle.std.specs.Int.{w32, w64, to_be_bytes, cast_unsigned}
use Rattle.xod_base.specs.declared.value.EntityId.{EntityId}
use Rattle.xod_base.specs.declared.value.Value.{Value}
use Rattle.xod_base.specs.declared.value.Value.TheVariants.{Flag, Int, Text}
use Rattle.xod_base.specs.declared.answer.NameKind.{NameKind}
use Rattle.xod_base.specs.declared.answer.NameKind.TheVariants.{Kinds, Props, Links}
use Rattle.xod_base.specs.Rows.{Cell, LinkKey, number_of}
use Rattle.xod_base.specs.Values.{keys_of}
use Rattle.xod_base.specs.Views.{Entry}
use Rattle.xod_dup.specs.Joining.{joined}

-- a number in four bytes, the highest first
abbrev pub u32 : ℕ → List ℕ
u32 number = to_be_bytes w32 number

-- a number in eight bytes, the highest first
abbrev pub u64 : ℕ → List ℕ
u64 number = to_be_bytes w64 number

-- an id: the type's number, then the local one
abbrev pub id_bytes : EntityId → List ℕ
id_bytes id = u32 id.kind ++ u32 id.local

-- both numbers of an id fit in four bytes, as those of every entity
pub record IsShort (id : EntityId) : Type 0 where
  pub kind : id.kind < 2 ^ 32
  pub local : id.local < 2 ^ 32

-- which list of names: 1 for types, 2 for properties, 3 for links
abbrev pub kind_byte : NameKind → ℕ
kind_byte Kinds = 1
kind_byte Props = 2
kind_byte Links = 3

-- A value as it is stored: 1 and the flag; 2 and the eight bytes of the integer in two's complement; 3 and the bytes of
-- the text.
abbrev pub stored : Value → List ℕ
stored (Flag flag) = 1 ∷ (if flag then 1 else 0) ∷ []
stored (Int number) = 2 ∷ u64 (cast_unsigned w64 number)
stored (Text text) = 3 ∷ text

-- ---- the keys of each tree

-- names: the list, and a number in it
abbrev pub name_key : NameKind → ℕ → List ℕ
name_key list number = kind_byte list ∷ u32 number

-- numbers: the list, and a name in it
abbrev pub number_key : NameKind → List ℕ → List ℕ
number_key list name = kind_byte list ∷ name

-- next numbers: the type
abbrev pub next_key : ℕ → List ℕ
next_key kind = u32 kind

-- entities: the id
abbrev pub entity_key : EntityId → List ℕ
entity_key id = id_bytes id

-- properties: the entity, and the property's number
abbrev pub property_key : EntityId → ℕ → List ℕ
property_key id prop = id_bytes id ++ u32 prop

-- the index: the type, the property and a key of the value, and with them, joined, the local number
abbrev pub index_key : EntityId → ℕ → List ℕ → List ℕ
index_key id prop key = joined (u32 id.kind ++ (u32 prop ++ key)) (u32 id.local)

-- links: the source and the link's number, and with them, joined, the target
abbrev pub link_key : EntityId → ℕ → EntityId → List ℕ
link_key source link target = joined (id_bytes source ++ u32 link) (id_bytes target)

-- links the other way round: the target and the link's number, and with them, joined, the source
abbrev pub back_key : EntityId → ℕ → EntityId → List ℕ
back_key source link target = link_key target link source

-- ---- the keys of what the rows have, where its name is listed

-- the key of a property among the properties
abbrev pub cell_key : List (List ℕ) → Cell → Option (List ℕ)
cell_key props cell = option_map (property_key cell.0) (number_of props cell.1)

-- the entries of a value in the index, where its property has a number: one for each key of the value
abbrev pub entries_at : EntityId → Value → Option ℕ → List Entry
entries_at id value None = []
entries_at id value (Some prop) = map (λ key. (index_key id prop key, [])) (keys_of value)

-- the entries of a property in the index
abbrev pub index_entries : List (List ℕ) → Cell × Value → List Entry
index_entries props property = entries_at property.0.0 property.1 (number_of props property.0.1)

-- the key of a link among the links by source
abbrev pub join_key : List (List ℕ) → LinkKey → Option (List ℕ)
join_key links link = option_map (λ number. link_key link.0 number link.1.1) (number_of links link.1.0)

-- the key of a link among the links by target
abbrev pub join_back_key : List (List ℕ) → LinkKey → Option (List ℕ)
join_back_key links link = option_map (λ number. back_key link.0 number link.1.1) (number_of links link.1.0)
