-- Which links of an entity go, of a list of links.
use Rattle.std.specs.Prelude.{Bool, not, ◌&&◌}
use Rattle.xod_base.specs.declared.value.EntityId.{EntityId}
use Rattle.xod_base.specs.Rows.{LinkKey, same_id}
use Rattle.xod_model.specs.declared.removal.Side.{Side}
use Rattle.xod_model.specs.declared.removal.Side.TheVariants.{Out, In}

-- a link out of an entity, or one into it from another
abbrev pub is_on : Side → EntityId → LinkKey → Bool
is_on Out id link = same_id link.0 id
is_on In id link = same_id link.1.1 id && not (same_id link.0 id)
