-- The names of types after changes, by the changes alone.
use Rattle.std.specs.Prelude.{List, [], ◌∷◌, ◌++◌, ℕ, length, ◌==◌, if◌then◌else◌}
use Rattle.xod_journal.specs.declared.change.RowChange.{RowChange}
use Rattle.xod_journal.specs.declared.change.RowChange.TheVariants.{AddEntity, RemoveEntity, Prop, LinkAdd, LinkDel}

-- the first entity of a type has the number behind the last one, and brings its name
abbrev pub kind_after : List (List ℕ) → RowChange → List (List ℕ)
kind_after names (AddEntity id kind) = if id.kind == length names then names ++ kind ∷ [] else names
kind_after names (RemoveEntity id) = names
kind_after names (Prop id name old new) = names
kind_after names (LinkAdd source link target) = names
kind_after names (LinkDel source link target) = names

abbrev pub kinds_after : List (List ℕ) → List RowChange → List (List ℕ)
kinds_after names [] = names
kinds_after names (change ∷ more) = kinds_after (kind_after names change) more
