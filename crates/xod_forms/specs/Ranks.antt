-- By what a query's ids are sorted.
use Rattle.std.specs.Prelude.{List, ℕ}
use Rattle.std.specs.declared.cmp.Ordering.{Ordering}
use Rattle.std.specs.FinMap.{get}
use Rattle.std.specs.Ordering.{ordering_then}
use Rattle.xod_base.specs.declared.query.Direction.{Direction}
use Rattle.xod_base.specs.declared.value.EntityId.{EntityId}
use Rattle.xod_base.specs.Evaluation.{key_at, key_cmp}
use Rattle.xod_base.specs.Rows.{RowsValue, id_cmp}
use Rattle.xod_forms.specs.declared.order.Ranked.{Ranked}

-- an id with the key that it is sorted by
abbrev pub rank_of : RowsValue → List ℕ → EntityId → Ranked
rank_of rows prop id = record { key = key_at (get rows.values (id, prop)); id = id }

-- by the keys, and where these are equal by rising id
abbrev pub rank_cmp : Direction → Ranked → Ranked → Ordering
rank_cmp direction a b = ordering_then (key_cmp direction a.key b.key) (id_cmp a.id b.id)
