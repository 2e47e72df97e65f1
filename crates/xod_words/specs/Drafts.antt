-- What holds of every query that is read.
use Rattle.std.specs.Prelude.{ℕ, ◌+◌, Bool, true, ◌&&◌, List, [], ◌∷◌, nat_lt, nat_le}
use Rattle.std.specs.List.{list_all}
use Rattle.xod_base.specs.declared.query.Query.{Query}
use Rattle.xod_base.specs.declared.query.Query.TheOpen.{Query-F}
use Rattle.xod_base.specs.declared.query.Query.TheOpen.{Linked, LinksOf, Union, Intersect, Minus, Targets, Sort, Skip, Take}
use Rattle.xod_base.specs.declared.query.Query.TheFolds.{fold-Query}
use Rattle.xod_base.specs.Names.{is_session_word}
use Rattle.xod_base.specs.Queries.{is_id, is_named, is_within_limits}
use Rattle.xod_words.specs.declared.draft.Ent.{Ent}
use Rattle.xod_words.specs.declared.draft.Ent.TheVariants.{Id, Var}
use Rattle.xod_words.specs.declared.draft.VarUse.{VarUse}
use Rattle.xod_words.specs.declared.draft.Draft.{Draft}

-- an id of the program, or a variable whose name is a session's word
abbrev pub is_ent : Ent → Bool
is_ent (Id id) = is_id id
is_ent (Var name) = is_session_word name

-- one level, with how many entity words the parts have
abbrev pub entities_at : Query-F ℕ → ℕ
entities_at (Linked kind link target) = 1
entities_at (LinksOf source link) = 1
entities_at (Union left right) = left + right
entities_at (Intersect left right) = left + right
entities_at (Minus left right) = left + right
entities_at (Targets link of) = of
entities_at (Sort prop direction of) = of
entities_at (Skip count of) = of
entities_at (Take count of) = of
entities_at leaf = 0

-- how many entity words a query has
abbrev pub entities_of : Query → ℕ
entities_of query = fold-Query ℕ entities_at query

-- each number is above the one before, and the first is not below `low`
abbrev pub rise_from : ℕ → List VarUse → Bool
rise_from low [] = true
rise_from low (var ∷ vars) = nat_le low var.place && rise_from (var.place + 1) vars

-- a session's word, in the place of one of so many entity words
abbrev pub is_var_use : ℕ → VarUse → Bool
is_var_use entities var = nat_lt var.place entities && is_session_word var.var

-- A query that can be written down, within the limits, and variables in the places of its entity words, by rising number.
unfoldable pub is_draft : Draft → Bool
is_draft draft =
    is_named draft.query
    && (is_within_limits draft.query
    && (rise_from 0 draft.vars && list_all (is_var_use (entities_of draft.query)) draft.vars))
