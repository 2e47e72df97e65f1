-- In which order the parts of an entity are given.
use Rattle.std.specs.Ordering.{ordering_then}
use Rattle.std.specs.declared.cmp.Ordering.{Ordering}
use Rattle.xod_base.specs.Rows.{id_cmp}
use Rattle.xod_base.specs.Values.{bytes_cmp}
use Rattle.xod_reader.specs.declared.parts.NamedValue.{NamedValue}
use Rattle.xod_reader.specs.declared.parts.NamedLink.{NamedLink}

-- by the bytes of the names
abbrev pub by_name : NamedValue → NamedValue → Ordering
by_name a b = bytes_cmp a.name b.name

-- by the bytes of the names, then by the other ends
abbrev pub by_name_and_end : NamedLink → NamedLink → Ordering
by_name_and_end a b = ordering_then (bytes_cmp a.name b.name) (id_cmp a.end b.end)

-- by the other ends, then by the bytes of the names
abbrev pub by_end_and_name : NamedLink → NamedLink → Ordering
by_end_and_name a b = ordering_then (id_cmp a.end b.end) (bytes_cmp a.name b.name)
