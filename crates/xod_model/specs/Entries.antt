-- Which rows the lists are.
use Rattle.std.specs.Prelude.{map}
use Rattle.std.specs.FinMap.{from_entries}
use Rattle.xod_base.specs.declared.value.EntityId.{EntityId}
use Rattle.xod_base.specs.declared.value.Value.{Value}
use Rattle.xod_base.specs.Rows.{RowsValue, Cell, LinkKey}
use Rattle.xod_model.specs.declared.items.PropValue.{PropValue}
use Rattle.xod_model.specs.declared.items.Join.{Join}
use Rattle.xod_model.specs.declared.lists.Lists.{Lists}

-- the entries that the items stand for
abbrev pub id_entry : EntityId → EntityId × Unit {0}
id_entry id = (id, tt)

abbrev pub prop_entry : PropValue → Cell × Value
prop_entry prop = ((prop.id, prop.name), prop.value)

abbrev pub join_key : Join → LinkKey
join_key join = (join.source, (join.link, join.target))

abbrev pub join_entry : Join → LinkKey × Unit {0}
join_entry join = (join_key join, tt)

-- The rows that lists are.
abbrev pub rows_of : Lists → RowsValue
rows_of lists = record {
  types = lists.types.items;
  props = lists.props.items;
  links = lists.links.items;
  nexts = lists.nexts.items;
  ids = from_entries (map id_entry lists.ids);
  values = from_entries (map prop_entry lists.values);
  joined = from_entries (map join_entry lists.joined);
}
