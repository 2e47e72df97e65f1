-- What the writers of tables write: which keys of which trees get a value, and which go.
use Rattle.std.specs.Prelude.{ℕ, ◌+◌, List, [], ◌∷◌, ◌++◌, map, Option, Some, None, nat_eq, if◌then◌else◌}
use Rattle.std.specs.Option.{option_map}
use Rattle.std.specs.FinMap.{insert, remove}
use Rattle.xod_base.specs.declared.value.EntityId.{EntityId}
use Rattle.xod_base.specs.declared.value.Value.{Value}
use Rattle.xod_base.specs.declared.answer.NameKind.{NameKind}
use Rattle.xod_base.specs.Values.{keys_of}
use Rattle.xod_base.specs.Views.{Tree, Trees}
use Rattle.xod_overlay.specs.declared.write.Write.{Write}
use Rattle.xod_tables.specs.Keys.{u32, u64, name_key, number_key, next_key, entity_key, property_key, index_key, link_key, back_key, stored}
use Rattle.xod_tables.specs.declared.trees.TheConstants.{NAMES, NUMBERS, NEXT, ENTITIES, PROPERTIES, INDEX, LINKS, BACK}

-- a key gets a value
abbrev pub put : ℕ → List ℕ → List ℕ → Write
put tree key value = record { tree = tree; key = key; value = Some value }

-- a key goes
abbrev pub removed : ℕ → List ℕ → Write
removed tree key = record { tree = tree; key = key; value = None }

-- a tree in which a key has a value, or none
abbrev pub with_key : Tree → List ℕ → Option (List ℕ) → Tree
with_key tree key None = remove tree key
with_key tree key (Some value) = insert tree key value

-- the trees after a write; one that is absent stays so
abbrev pub after_write : Trees → Write → Trees
after_write trees write other = if nat_eq other write.tree then option_map (λ tree. with_key tree write.key write.value) (trees other) else trees other

-- the trees after a list of writes, the first one first
abbrev pub after_writes : Trees → List Write → Trees
after_writes trees [] = trees
after_writes trees (write ∷ more) = after_writes (after_write trees write) more

-- ---- what each writer writes

-- a new name, with its number
abbrev pub name_writes : NameKind → ℕ → List ℕ → List Write
name_writes list number name = put NAMES (name_key list number) name ∷ put NUMBERS (number_key list name) (u32 number) ∷ []

-- a new entity; its type's next number is one above it
abbrev pub id_writes : EntityId → List Write
id_writes id = put ENTITIES (entity_key id) [] ∷ put NEXT (next_key id.kind) (u64 (id.local + 1)) ∷ []

-- an entity that goes
abbrev pub id_removals : EntityId → List Write
id_removals id = removed ENTITIES (entity_key id) ∷ []

-- the keys of a value that may be absent
abbrev pub keys_of_option : Option Value → List (List ℕ)
keys_of_option None = []
keys_of_option (Some value) = keys_of value

-- a property with another value, either of which may be absent: the old keys go, and the new ones come
abbrev pub value_writes : EntityId → ℕ → Option Value → Option Value → List Write
value_writes id prop old new =
    record { tree = PROPERTIES; key = property_key id prop; value = option_map stored new }
    ∷ (map (λ key. removed INDEX (index_key id prop key)) (keys_of_option old)
    ++ map (λ key. put INDEX (index_key id prop key) []) (keys_of_option new))

-- a new link
abbrev pub link_writes : EntityId → ℕ → EntityId → List Write
link_writes source link target = put LINKS (link_key source link target) [] ∷ put BACK (back_key source link target) [] ∷ []

-- a link that goes
abbrev pub link_removals : EntityId → ℕ → EntityId → List Write
link_removals source link target = removed LINKS (link_key source link target) ∷ removed BACK (back_key source link target) ∷ []
