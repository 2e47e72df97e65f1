-- What belongs to an entity, each part with the number of its name.
use Rattle.std.specs.Prelude.{not, ◌&&◌, List, map}
use Rattle.std.specs.List.{filter}
use Rattle.std.specs.FinMap.{keys}
use Rattle.xod_base.specs.Rows.{RowsValue, same_id}
use Rattle.xod_base.specs.declared.value.EntityId.{EntityId}
use Rattle.xod_journal.specs.Changes.{kind_number}
use Rattle.xod_journal.specs.Shows.{props_of, links_of}
use Rattle.xod_reader.specs.declared.parts.NamedValue.{NamedValue}
use Rattle.xod_reader.specs.declared.parts.NamedLink.{NamedLink}

-- the properties of an entity, by rising name
abbrev pub named_values : RowsValue → EntityId → List NamedValue
named_values rows id = map (λ prop. record { number = kind_number rows.props prop.0; name = prop.0; value = prop.1 }) (props_of rows id)

-- the links out of an entity, by rising name, then target
abbrev pub named_targets : RowsValue → EntityId → List NamedLink
named_targets rows id = map (λ link. record { number = kind_number rows.links link.0; name = link.0; end = link.1 }) (links_of rows id)

-- the links to an entity from others, by rising source, then name
abbrev pub named_sources : RowsValue → EntityId → List NamedLink
named_sources rows id =
    map (λ link. record { number = kind_number rows.links link.1.0; name = link.1.0; end = link.0 })
    (filter (λ link. same_id link.1.1 id && not (same_id link.0 id)) (keys rows.joined))
