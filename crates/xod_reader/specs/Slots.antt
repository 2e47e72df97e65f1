-- Where a name stands in a list of names, or would stand.
use Rattle.std.specs.Prelude.{ℕ, List, length, Option, Some, None, nat_lt, if◌then◌else◌}
use Rattle.xod_base.specs.declared.limits.TheConstants.{MOST_NAMES}
use Rattle.xod_base.specs.Rows.{number_of}
use Rattle.xod_reader.specs.declared.slot.Slot.{Slot}
use Rattle.xod_reader.specs.declared.slot.Slot.TheVariants.{Listed, Free, Full}

-- a name that is not listed would stand at the end, where the list has room
abbrev pub end_slot : ℕ → Slot
end_slot count = if nat_lt count MOST_NAMES then Free count else Full

abbrev pub slot_by : Option ℕ → ℕ → Slot
slot_by None count = end_slot count
slot_by (Some number) count = Listed number

abbrev pub slot_of : List (List ℕ) → List ℕ → Slot
slot_of names name = slot_by (number_of names name) (length names)
