-- What the ids of a type are tested by, for the forms of a query that have no parts.
use Rattle.std.specs.Prelude.{Bool, true}
use Rattle.xod_base.specs.declared.value.EntityId.{EntityId}
use Rattle.xod_base.specs.declared.value.Value.{Value}
use Rattle.xod_base.specs.Evaluation.{has_value, has_link, is_linked}
use Rattle.xod_base.specs.Rows.{RowsValue}
use Rattle.xod_base.specs.Values.{has_key, has_key_within, has_front}
use Rattle.xod_model.specs.declared.passing.ValueTest.{ValueTest}
use Rattle.xod_model.specs.declared.passing.ValueTest.TheVariants.{Key, Within, Front, Any}
use Rattle.xod_model.specs.declared.passing.Test.{Test}
use Rattle.xod_model.specs.declared.passing.Test.TheVariants.{Prop, Link, LinkTo}

-- whether a value passes
abbrev pub value_passes : ValueTest → Value → Bool
value_passes (Key key) = has_key key
value_passes (Within low high) = has_key_within low high
value_passes (Front front) = has_front front.items
value_passes Any = λ value. true

-- Whether an entity passes.
abbrev pub passes : RowsValue → Test → EntityId → Bool
passes rows (Prop prop test) = has_value rows prop.now (value_passes test)
passes rows (Link link) = has_link rows link.now
passes rows (LinkTo link target) = is_linked rows link.now target
