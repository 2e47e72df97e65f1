-- What belongs to an entity, as `show` gives it.
use Rattle.std.specs.Prelude.{ℕ, not, List, [], ◌∷◌, map, Result, Ok, Err, is_some, if◌then◌else◌, zero, suc}
use Rattle.std.specs.List.{filter}
use Rattle.std.specs.FinMap.{get, entries, keys}
use Rattle.xod_base.specs.declared.value.EntityId.{EntityId}
use Rattle.xod_base.specs.declared.value.Value.{Value}
use Rattle.xod_base.specs.declared.answer.Shown.{Shown}
use Rattle.xod_base.specs.declared.answer.StmtError.{StmtError}
use Rattle.xod_base.specs.declared.answer.StmtError.TheVariants.{NoEntity}
use Rattle.xod_base.specs.Rows.{RowsValue, same_id}

-- the name at a place of a list, and no bytes past its end
abbrev pub name_at : List (List ℕ) → ℕ → List ℕ
name_at [] n = []
name_at (name ∷ names) zero = name
name_at (name ∷ names) (suc n) = name_at names n

-- the properties of an entity, by rising name
abbrev pub props_of : RowsValue → EntityId → List (List ℕ × Value)
props_of rows id = map (λ cell. (cell.0.1, cell.1)) (filter (λ cell. same_id cell.0.0 id) (entries rows.values))

-- the links out of an entity, by rising name, then target
abbrev pub links_of : RowsValue → EntityId → List (List ℕ × EntityId)
links_of rows id = map (λ link. (link.1.0, link.1.1)) (filter (λ link. same_id link.0 id) (keys rows.joined))

-- What is shown of an entity that is there; the refusal where it is not.
abbrev pub shown_of : RowsValue → EntityId → Result Shown StmtError
shown_of rows id =
    if not (is_some (get rows.ids id)) then Err (NoEntity id)
    else Ok (record { id = id; kind = name_at rows.types id.kind; props = props_of rows id; links = links_of rows id })
