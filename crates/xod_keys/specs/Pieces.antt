-- What can be read of the keys and values of a store's trees. Bytes that no key or value of tables has are not read.
use Rattle.std.specs.Prelude.{ℕ, ◌-◌, ◌==◌, List, take, drop, length, Option, Some, None, nat_le, if◌then◌else◌}
use Rattle.xod_base.specs.declared.value.EntityId.{EntityId}
use Rattle.xod_base.specs.declared.value.Value.{Value}
use Rattle.xod_base.specs.Text.{is_text}
use Rattle.xod_base.specs.Values.{is_value}
use Rattle.xod_tables.specs.Keys.{stored}
use Rattle.xod_tables.specs.Reading.{of_u32, of_u64, only_written, id_at, value_in}

-- four bytes are a number
abbrev pub number_read : List ℕ → Option ℕ
number_read bytes = if length bytes == 4 then Some (of_u32 bytes) else None

-- eight bytes are a next number
abbrev pub next_read : List ℕ → Option ℕ
next_read bytes = if length bytes == 8 then Some (of_u64 bytes) else None

-- a name is a text
abbrev pub name_read : List ℕ → Option (List ℕ)
name_read bytes = if is_text bytes then Some bytes else None

-- the eight bytes of an entity's key are its id
abbrev pub id_read : List ℕ → Option EntityId
id_read key = if length key == 8 then Some (id_at key) else None

-- the twelve bytes of a property's key end with its number
abbrev pub prop_read : List ℕ → Option ℕ
prop_read key = if length key == 12 then Some (of_u32 (drop 8 key)) else None

-- the twenty bytes of a link's key have the link's number behind the one entity, and end with the other
abbrev pub link_read : List ℕ → Option (ℕ × EntityId)
link_read key = if length key == 20 then Some (of_u32 (take 4 (drop 8 key)), id_at (drop 12 key)) else None

-- the key of an entry of the index begins with the type and ends with the local number; type, property and local number
-- are twelve of its bytes
abbrev pub entry_read : List ℕ → Option EntityId
entry_read key =
    if nat_le 12 (length key)
    then Some (record { kind = of_u32 (take 4 key); local = of_u32 (drop (length key - 4) key) })
    else None

-- stored bytes are a value where it is stored as these bytes
abbrev pub value_read : List ℕ → Option Value
value_read bytes =
    if is_value (value_in bytes) then only_written (λ value. Some (stored value)) bytes (Some (value_in bytes)) else None
