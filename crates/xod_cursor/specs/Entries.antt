-- Lists of entries, of which some pass a test.
use Rattle.std.specs.Prelude.{List, Option, slice_get, option_map}
use Rattle.std.specs.List.{filter}
use Rattle.xod_base.specs.declared.pair.Pair.{Pair}
use Rattle.xod_base.specs.Views.{Entry, Test, pair_of}

-- the entries whose keys pass
abbrev pub kept : Test → List Entry → List Entry
kept passes entries = filter (λ entry. passes entry.0) entries

-- the first entry, where there is one
abbrev pub first_pair : List Entry → Option Pair
first_pair entries = option_map pair_of (slice_get entries 0)
