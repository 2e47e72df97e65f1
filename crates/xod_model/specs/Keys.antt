-- By what the items of rows are ordered and found: each key is that of a link.
use Rattle.std.specs.Prelude.{[]}
use Rattle.xod_base.specs.declared.value.EntityId.{EntityId}
use Rattle.xod_base.specs.Rows.{Cell, LinkKey}
use Rattle.xod_model.specs.declared.keyed.Key.{Key}

-- a key as the link that it is
abbrev pub link_of : Key → LinkKey
link_of key = (key.id, (key.name.now, key.target))

-- the id that stands where a key has no other one
abbrev pub no_other : EntityId
no_other = record { kind = 0; local = 0 }

-- the key of an entity
abbrev pub id_key : EntityId → LinkKey
id_key id = (id, ([], no_other))

-- the key of a property of an entity
abbrev pub cell_key : Cell → LinkKey
cell_key cell = (cell.0, (cell.1, no_other))
