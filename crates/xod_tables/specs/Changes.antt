-- What a change of a property leaves in the index.
use Rattle.std.specs.Prelude.{◌≡◌, ℕ, Bool, List, [], Option, Some, None, if◌then◌else◌}
use Rattle.std.specs.List.{list_any}
use Rattle.std.specs.Option.{option_map}
use Rattle.std.specs.FinMap.{get}
use Rattle.xod_base.specs.declared.value.EntityId.{EntityId}
use Rattle.xod_base.specs.declared.value.Value.{Value}
use Rattle.xod_base.specs.Values.{same_bytes}
use Rattle.xod_base.specs.Views.{Tree, Trees}
use Rattle.xod_tables.specs.Keys.{index_key}
use Rattle.xod_tables.specs.Writes.{after_writes, keys_of_option, value_writes}
use Rattle.xod_tables.specs.declared.trees.TheConstants.{INDEX}

-- whether a key of the index is one of a value's
abbrev pub is_entry : EntityId → ℕ → Option Value → List ℕ → Bool
is_entry id prop value key = list_any (λ own. same_bytes key (index_key id prop own)) (keys_of_option value)

-- After a property's change the index has each key of the new value, also one that the old value had too, as that of a
-- text of which only the case changed. It has no other key of the old value, and at all other keys what it had.
abbrev pub NewKeysStand : Type 0
NewKeysStand = (trees : Trees) (index : Tree) (id : EntityId) (prop : ℕ) (old new : Option Value) (key : List ℕ) → trees INDEX ≡ Some index
    → option_map (λ after. get after key) (after_writes trees (value_writes id prop old new) INDEX)
    ≡ Some (if is_entry id prop new key then Some [] else if is_entry id prop old key then None else get index key)
