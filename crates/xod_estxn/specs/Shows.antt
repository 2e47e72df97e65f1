-- What is shown of an entity that may not be there.
use Rattle.std.specs.Prelude.{Option, Some, None, is_some, if◌then◌else◌}
use Rattle.std.specs.FinMap.{get}
use Rattle.xod_base.specs.declared.answer.Shown.{Shown}
use Rattle.xod_base.specs.declared.value.EntityId.{EntityId}
use Rattle.xod_base.specs.Rows.{RowsValue}
use Rattle.xod_journal.specs.Shows.{links_of, name_at, props_of}

-- what belongs to an entity, where it is there
abbrev pub shown_in : RowsValue → EntityId → Option Shown
shown_in rows id =
    if is_some (get rows.ids id) then Some (record { id = id; kind = name_at rows.types id.kind; props = props_of rows id; links = links_of rows id })
    else None
