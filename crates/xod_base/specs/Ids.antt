-- The number that stands for an id in a list.
use Rattle.std.specs.Prelude.{ℕ, ◌+◌, ◌*◌, ◌/◌, ◌%◌, ◌^◌}
use Rattle.xod_base.specs.declared.value.EntityId.{EntityId}

-- the type's number, then the local one: ids rise as these numbers do
abbrev pub number_of_id : EntityId → ℕ
number_of_id id = id.kind * 2 ^ 32 + id.local

abbrev pub id_of_number : ℕ → EntityId
id_of_number number = record { kind = number / 2 ^ 32; local = number % 2 ^ 32 }
