-- A tree of ids by the bytes of names, seen as the variables.
use Rattle.std.specs.Prelude.{ℕ, List, map, Vec}
use Rattle.std.specs.declared.alloc.Global.{Global}
use Rattle.std.specs.FinMap.{from_entries}
use Rattle.std.specs.FinMap as maps
use Rattle.std.specs.Coded.{Coded, coded_list, coded_ℕ}
use Rattle.xod_base.specs.declared.value.EntityId.{EntityId}
use Rattle.xod_base.specs.Rows.{id_code}
use Rattle.xod_session.specs.Variables.{Variables}

abbrev pub named_id : Vec ℕ Global × EntityId → List ℕ × EntityId
named_id entry = (entry.0.items, entry.1)

abbrev pub variables_of : List (Vec ℕ Global × EntityId) → Variables
variables_of entries = from_entries (map named_id entries)

abbrev pub variables_code : Coded Variables
variables_code = maps.code (coded_list coded_ℕ) id_code
