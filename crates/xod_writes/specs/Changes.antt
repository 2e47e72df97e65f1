-- What a change of the rows writes into the trees that are their tables.
use Rattle.std.specs.Prelude.{ℕ, List, [], ◌∷◌, ◌++◌, length, Option, Some, None, if◌then◌else◌}
use Rattle.xod_base.specs.declared.value.Value.{Value}
use Rattle.xod_base.specs.declared.answer.NameKind.{NameKind}
use Rattle.xod_base.specs.declared.answer.NameKind.TheVariants.{Kinds, Props, Links}
use Rattle.xod_base.specs.Rows.{RowsValue, is_listed}
use Rattle.xod_journal.specs.declared.change.RowChange.{RowChange}
use Rattle.xod_journal.specs.declared.change.RowChange.TheVariants.{AddEntity, RemoveEntity, Prop, LinkAdd, LinkDel}
use Rattle.xod_journal.specs.Changes.{kind_number, applied}
use Rattle.xod_overlay.specs.declared.write.Write.{Write}
use Rattle.xod_tables.specs.Writes.{name_writes, id_writes, id_removals, value_writes, link_writes, link_removals}

-- the number of a name in a list: its place, and the list's end for a new one
abbrev pub number_for : List (List ℕ) → List ℕ → ℕ
number_for names name = kind_number names name

-- a name that is not listed is written with the number of the list's end
abbrev pub listing : NameKind → List (List ℕ) → List ℕ → List Write
listing list names name = if is_listed names name then [] else name_writes list (length names) name

-- a value that is set lists its property's name; one that goes lists none
abbrev pub listing_for : List (List ℕ) → List ℕ → Option Value → List Write
listing_for props name None = []
listing_for props name (Some value) = listing Props props name

-- What a change writes, in this order.
abbrev pub writes_of : RowsValue → RowChange → List Write
writes_of rows (AddEntity id kind) = listing Kinds rows.types kind ++ id_writes id
writes_of rows (RemoveEntity id) = id_removals id
writes_of rows (Prop id name old new) = listing_for rows.props name new ++ value_writes id (number_for rows.props name) old new
writes_of rows (LinkAdd source link target) = listing Links rows.links link ++ link_writes source (number_for rows.links link) target
writes_of rows (LinkDel source link target) = link_removals source (number_for rows.links link) target

-- what a list of changes writes, each of which is made of the rows after those before it
abbrev pub all_writes : RowsValue → List RowChange → List Write
all_writes rows [] = []
all_writes rows (change ∷ more) = writes_of rows change ++ all_writes (applied rows change) more
