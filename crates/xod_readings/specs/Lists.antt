-- What rows have, in the order in which their tables have it: by the numbers of names, and not by the names.
use Rattle.std.specs.Prelude.{ℕ, List, [], ◌∷◌, map, Option, Some, None}
use Rattle.std.specs.List.{filter, flat_map}
use Rattle.std.specs.FinMap.{get, keys}
use Rattle.xod_base.specs.declared.value.EntityId.{EntityId}
use Rattle.xod_base.specs.declared.value.Value.{Value}
use Rattle.xod_base.specs.Evaluation.{targets_of, is_linked}
use Rattle.xod_base.specs.Rows.{RowsValue}
use Rattle.xod_carry.specs.Carry.{numbered}

-- a value with its property's number, where there is a value
abbrev pub with_number : ℕ → Option Value → List (ℕ × Value)
with_number number None = []
with_number number (Some value) = (number, value) ∷ []

-- the properties of an entity, each with its number, by rising number
abbrev pub numbered_values : RowsValue → EntityId → List (ℕ × Value)
numbered_values rows id = flat_map (λ name. with_number name.0 (get rows.values (id, name.1))) (numbered 0 rows.props)

-- the sources of the links to an entity by a name, rising
abbrev pub sources_of : RowsValue → List ℕ → EntityId → List EntityId
sources_of rows name target = filter (is_linked rows name target) (keys rows.ids)

-- the links out of an entity, each with its number and its target, in the order of both
abbrev pub numbered_targets : RowsValue → EntityId → List (ℕ × EntityId)
numbered_targets rows source = flat_map (λ name. map (λ target. (name.0, target)) (targets_of rows name.1 source)) (numbered 0 rows.links)

-- the links to an entity, each with its number and its source, in the order of both
abbrev pub numbered_sources : RowsValue → EntityId → List (ℕ × EntityId)
numbered_sources rows target = flat_map (λ name. map (λ source. (name.0, source)) (sources_of rows name.1 target)) (numbered 0 rows.links)
