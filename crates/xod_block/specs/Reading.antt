-- Which record bytes begin with, read from the left.
use Rattle.std.specs.Prelude.{ℕ, zero, suc, ◌*◌, ◌/◌, ◌-◌, Bool, ◌&&◌, ◌==◌, nat_lt, nat_le, if◌then◌else◌, List, [], ◌∷◌, length, take, drop, slice_index, Option, Some, None}
use Rattle.std.specs.Option.{option_map}
use Rattle.std.specs.Int.{Width, w16, w32, w64, byte_len, from_be_bytes}
use Rattle.xod_block.specs.declared.address.Address.{Address}
use Rattle.xod_block.specs.Records.{Link, RecordValue, Leaf, Node, Root, rise, least_children}

-- a step, and then another on what it gave
infixl 10 ◌>>=◌
abbrev pub ◌>>=◌ : {A B : Type 0} → Option A → (A → Option B) → Option B
None >>= f = None
(Some x) >>= f = f x

-- ---- parts: each answers what stands at the front, and the bytes behind it

abbrev pub byte_at : List ℕ → Option (ℕ × List ℕ)
byte_at [] = None
byte_at (byte ∷ rest) = Some (byte, rest)

abbrev pub number_at : Width → List ℕ → Option (ℕ × List ℕ)
number_at w bytes = if nat_lt (length bytes) (byte_len w) then None else Some (from_be_bytes w (take (byte_len w) bytes), drop (byte_len w) bytes)

unfoldable pub part_at : List ℕ → Option (List ℕ × List ℕ)
part_at bytes = do
  n ← number_at w16 bytes
  if nat_lt (length n.1) n.0 then None else Some (take n.0 n.1, drop n.0 n.1)

-- the value behind a flag
unfoldable pub own_at : List ℕ → Option (Option (List ℕ) × List ℕ)
own_at bytes = do
  flag ← byte_at bytes
  if flag.0 == 0 then Some (None, flag.1) else if flag.0 == 1 then part_at flag.1 >>= (λ value. Some (Some value.0, value.1)) else None

-- ---- links, 13 bytes each

abbrev pub address_of : List ℕ → Address
address_of bytes = record { file = from_be_bytes w32 (take 4 bytes); at = from_be_bytes w64 (take 8 (drop 4 bytes)) }

abbrev pub link_of : List ℕ → Link
link_of bytes = (slice_index bytes 0, address_of (drop 1 bytes))

-- so many links at the front
abbrev pub first_links : ℕ → List ℕ → List Link
first_links zero bytes = []
first_links (suc count) bytes = link_of bytes ∷ first_links count (drop 13 bytes)

-- the links in bytes that are nothing else
abbrev pub links_in : List ℕ → List Link
links_in bytes = first_links (length bytes / 13) bytes

unfoldable pub links_at : ℕ → List ℕ → Option (List Link × List ℕ)
links_at count bytes = if nat_lt (length bytes) (13 * count) then None else Some (links_in (take (13 * count) bytes), drop (13 * count) bytes)

-- ---- records

unfoldable pub leaf_at : List ℕ → Option (RecordValue × List ℕ)
leaf_at bytes = do
  key ← part_at bytes
  value ← part_at key.1
  Some (Leaf key.0 value.0, value.1)

abbrev pub are_children : Option (List ℕ) → ℕ → List Link → Bool
are_children value count children = nat_le (least_children value) count && nat_le count 256 && rise children

unfoldable pub node_at : List ℕ → Option (RecordValue × List ℕ)
node_at bytes = do
  key ← part_at bytes
  value ← own_at key.1
  count ← number_at w16 value.1
  children ← links_at count.0 count.1
  if are_children value.0 count.0 children.0 then Some (Node key.0 value.0 children.0, children.1) else None

abbrev pub are_trees : ℕ → ℕ → List Link → Bool
are_trees format count trees = (format == 1) && nat_le count 32 && rise trees

unfoldable pub root_at : List ℕ → Option (RecordValue × List ℕ)
root_at bytes = do
  format ← byte_at bytes
  commit ← number_at w64 format.1
  count ← byte_at commit.1
  trees ← links_at count.0 count.1
  if are_trees format.0 count.0 trees.0 then Some (Root commit.0 trees.0, trees.1) else None

unfoldable pub record_and_rest : List ℕ → Option (RecordValue × List ℕ)
record_and_rest bytes = do
  kind ← byte_at bytes
  if kind.0 == 1 then leaf_at kind.1 else if kind.0 == 2 then node_at kind.1 else if kind.0 == 3 then root_at kind.1 else None

-- the record that bytes begin with, and its length
unfoldable pub record_at : List ℕ → Option (RecordValue × ℕ)
record_at bytes = option_map (λ found. (found.0, length bytes - length found.1)) (record_and_rest bytes)

-- that record alone
abbrev pub record_in : List ℕ → Option RecordValue
record_in bytes = option_map (λ found. found.0) (record_at bytes)
