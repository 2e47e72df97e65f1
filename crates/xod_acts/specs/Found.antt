-- What an act has to know of the rows before it can be planned.
use Rattle.std.specs.Prelude.{ℕ, ◌≤◌, Bool, List, Option, Some, None, Result, Ok, Err, is_some, nat_le, if◌then◌else◌}
use Rattle.std.specs.List.{list_all}
use Rattle.std.specs.FinMap.{get}
use Rattle.xod_base.specs.declared.limits.TheConstants.{LONGEST_TEXT}
use Rattle.xod_base.specs.declared.value.EntityId.{EntityId}
use Rattle.xod_base.specs.declared.value.Value.{Value}
use Rattle.xod_base.specs.Evaluation.{is_linked, targets_of}
use Rattle.xod_base.specs.Rows.{RowsValue, next_of, text_length}
use Rattle.xod_journal.specs.Changes.{option_text_length}
use Rattle.xod_reader.specs.declared.parts.NamedValue.{NamedValue}
use Rattle.xod_reader.specs.declared.slot.Slot.{Slot}
use Rattle.xod_reader.specs.declared.slot.Slot.TheVariants.{Listed, Free, Full}
use Rattle.xod_reader.specs.Named.{named_sources, named_targets, named_values}
use Rattle.xod_reader.specs.Slots.{slot_of}
use Rattle.xod_acts.specs.declared.found.Belongings.{Belongings}

-- what there is of an entity, and nothing where it is not there
abbrev pub of_entity : {A : Type 0} → RowsValue → EntityId → A → Option A
of_entity rows id known = if is_some (get rows.ids id) then Some known else None

-- what there is of two entities, and else the first one that is not there
abbrev pub of_both : {A : Type 0} → RowsValue → EntityId → EntityId → A → Result A EntityId
of_both rows source target known =
    if is_some (get rows.ids source) then (if is_some (get rows.ids target) then Ok known else Err target) else Err source

-- the first of two entities that is not there
abbrev pub absent_at : RowsValue → EntityId → EntityId → Option EntityId
absent_at rows source target =
    if is_some (get rows.ids source) then (if is_some (get rows.ids target) then None else Some target) else Some source

-- the number of a name by its slot
abbrev pub slot_number : Slot → ℕ
slot_number (Listed number) = number
slot_number (Free number) = number
slot_number Full = 0

-- where a type's name stands, and the type's next number
abbrev pub type_at : RowsValue → List ℕ → Slot × ℕ
type_at rows kind = (slot_of rows.types kind, next_of rows.nexts (slot_number (slot_of rows.types kind)))

-- where a property's name stands, and an entity's value
abbrev pub property_at : RowsValue → EntityId → List ℕ → Option (Slot × Option Value)
property_at rows id prop = of_entity rows id (slot_of rows.props prop, get rows.values (id, prop))

-- where a link's name stands, and whether two entities are linked
abbrev pub join_at : RowsValue → EntityId → List ℕ → EntityId → Slot × Bool
join_at rows source link target = (slot_of rows.links link, is_linked rows link target source)

-- the same, and all targets of the first one
abbrev pub joins_at : RowsValue → EntityId → List ℕ → EntityId → Slot × Bool × List EntityId
joins_at rows source link target = (slot_of rows.links link, is_linked rows link target source, targets_of rows link source)

-- where a link's name stands, and the targets
abbrev pub targets_at : RowsValue → EntityId → List ℕ → Slot × List EntityId
targets_at rows source link = (slot_of rows.links link, targets_of rows link source)

-- all that belongs to an entity
abbrev pub belongings_at : RowsValue → EntityId → Belongings
belongings_at rows id = record { values = named_values rows id; links_out = named_targets rows id; links_in = named_sources rows id }

-- no text that was found is longer than the limit
abbrev pub IsShortProperty : Slot × Option Value → Type 0
IsShortProperty found = option_text_length found.1 ≤ LONGEST_TEXT

-- whether that holds of all of an entity's values
abbrev pub all_short : List NamedValue → Bool
all_short values = list_all (λ part. nat_le (text_length part.value) LONGEST_TEXT) values
