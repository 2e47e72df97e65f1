-- Variables, and how the ids that they name come into statements and queries.
use Rattle.std.specs.Prelude.{ℕ, ◌+◌, ◌==◌, List, [], ◌∷◌, map, Option, Some, None, is_some, unwrap_or, if◌then◌else◌}
use Rattle.std.specs.FinMap.{FinMap, get}
use Rattle.xod_base.specs.declared.value.EntityId.{EntityId}
use Rattle.xod_base.specs.declared.query.Query.{Query, roll-Query}
use Rattle.xod_base.specs.declared.query.Query.TheOpen.{Query-F}
use Rattle.xod_base.specs.declared.query.Query.TheOpen.{All, Find, Range, Prefix, With, WithLink, Linked, LinksOf, Union, Intersect, Minus, Targets, Sort, Skip, Take}
use Rattle.xod_base.specs.declared.query.Query.TheFolds.{fold-Query}
use Rattle.xod_base.specs.Values.{bytes_cmp}
use Rattle.xod_words.specs.declared.draft.Ent.{Ent}
use Rattle.xod_words.specs.declared.draft.Ent.TheVariants.{Id, Var}
use Rattle.xod_words.specs.declared.draft.VarUse.{VarUse}
use Rattle.xod_words.specs.declared.draft.Draft.{Draft}
use Rattle.xod_lang.specs.declared.script.Form.{Form}
use Rattle.xod_lang.specs.declared.script.Form.TheVariants as form

-- A variable has the id of the last `new` with its name that succeeded; until then it is unset.
abbrev pub Variables : Type 0
Variables = FinMap bytes_cmp EntityId

-- ---- entity words

-- the id that an entity word stands for; none for an unset variable
abbrev pub id_at : Variables → Ent → Option EntityId
id_at vars (Id id) = Some id
id_at vars (Var name) = get vars name

abbrev pub no_id : EntityId
no_id = record { kind = 0; local = 0 }

-- the id of an entity word that is no unset variable
abbrev pub id_in : Variables → Ent → EntityId
id_in vars ent = unwrap_or (id_at vars ent) no_id

-- the name of the variable that an entity word is
abbrev pub name_in : Ent → List ℕ
name_in (Id id) = []
name_in (Var name) = name

-- the variables of a query
abbrev pub words_in : List VarUse → List Ent
words_in uses = map (λ word. Var word.var) uses

-- the entity words of a statement, left to right; of a query its variables alone
abbrev pub words_of : Form → List Ent
words_of (form.Delete ent) = ent ∷ []
words_of (form.Set ent prop value) = ent ∷ []
words_of (form.Unset ent prop) = ent ∷ []
words_of (form.Link source link target) = source ∷ target ∷ []
words_of (form.SetLink source link target) = source ∷ target ∷ []
words_of (form.Unlink source link target) = source ∷ target ∷ []
words_of (form.UnlinkAll source link) = source ∷ []
words_of (form.Show ent) = ent ∷ []
words_of (form.Query draft) = words_in draft.vars
words_of (form.Count draft) = words_in draft.vars
words_of other = []

-- The first of some entity words that is an unset variable.
abbrev pub first_unset : Variables → List Ent → Option (List ℕ)
first_unset vars [] = None
first_unset vars (ent ∷ more) = if is_some (id_at vars ent) then first_unset vars more else Some (name_in ent)

-- ---- queries

-- A walk over the entity words of a query: the number of the next word, and the ids of the variables still to come, each
-- with the number of its word.
pub record Filling : Type 0 where
  pub next : ℕ
  pub left : List (ℕ × EntityId)

-- the word with a number: the next variable's id where that has this number, and else its own id
abbrev pub word_with : EntityId → ℕ → List (ℕ × EntityId) → EntityId × Filling
word_with id number [] = (id, record { next = number + 1; left = [] })
word_with id number (var ∷ more) =
    if var.0 == number then (var.1, record { next = number + 1; left = more }) else (id, record { next = number + 1; left = var ∷ more })

abbrev pub word_filled : EntityId → Filling → EntityId × Filling
word_filled id now = word_with id now.next now.left

-- what a part of a query becomes, and where the walk is behind it
abbrev pub Walk : Type 0
Walk = Filling → Query × Filling

-- a query of one part, and of two, the left one before the right one
abbrev pub around : (Query → Query) → Query × Filling → Query × Filling
around made part = (made part.0, part.1)

abbrev pub joined : (Query → Query → Query) → Query × Filling → Walk → Query × Filling
joined made left right = (made left.0 (right left.1).0, (right left.1).1)

-- one level, with the walks over the parts
abbrev pub filled_at : Query-F Walk → Walk
filled_at (All kind) now = (roll-Query (All kind), now)
filled_at (Find kind prop value) now = (roll-Query (Find kind prop value), now)
filled_at (Range kind prop low high) now = (roll-Query (Range kind prop low high), now)
filled_at (Prefix kind prop text) now = (roll-Query (Prefix kind prop text), now)
filled_at (With kind prop) now = (roll-Query (With kind prop), now)
filled_at (WithLink kind link) now = (roll-Query (WithLink kind link), now)
filled_at (Linked kind link target) now = (roll-Query (Linked kind link (word_filled target now).0), (word_filled target now).1)
filled_at (LinksOf source link) now = (roll-Query (LinksOf (word_filled source now).0 link), (word_filled source now).1)
filled_at (Union left right) now = joined (λ l r. roll-Query (Union l r)) (left now) right
filled_at (Intersect left right) now = joined (λ l r. roll-Query (Intersect l r)) (left now) right
filled_at (Minus left right) now = joined (λ l r. roll-Query (Minus l r)) (left now) right
filled_at (Targets link of) now = around (λ q. roll-Query (Targets link q)) (of now)
filled_at (Sort prop direction of) now = around (λ q. roll-Query (Sort prop direction q)) (of now)
filled_at (Skip count of) now = around (λ q. roll-Query (Skip count q)) (of now)
filled_at (Take count of) now = around (λ q. roll-Query (Take count q)) (of now)

-- the ids of a query's variables, each with the number of its word
abbrev pub ids_for : Variables → List VarUse → List (ℕ × EntityId)
ids_for vars uses = map (λ word. (word.place, id_in vars (Var word.var))) uses

-- a query with the ids of some words in their places
abbrev pub filled_from : Filling → Query → Query × Filling
filled_from now query = fold-Query Walk filled_at query now

-- A query with the ids of its variables in their places.
abbrev pub filled : Variables → Draft → Query
filled vars draft = (filled_from (record { next = 0; left = ids_for vars draft.vars }) draft.query).0
