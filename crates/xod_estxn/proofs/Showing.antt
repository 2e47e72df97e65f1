-- What is shown of an entity, from what was read of it.
use Rattle.std.proofs.Common.{◌≡◌, ℕ, zero, suc, ◌<◌, Bool, true, false, cond, List, [], ◌∷◌, map, length, Some, None, refl, sym, ap, ◌∙◌, arith, ltb-true}
use Rattle.std.specs.Prelude.{IsTrue, Result, Ok, Err, is_some, not}
use Rattle.std.specs.FinMap.{get}
use Rattle.std.specs.List.{slice_get}
use Rattle.xod_base.specs.declared.answer.Shown.{Shown}
use Rattle.xod_base.specs.declared.answer.StmtError.{StmtError}
use Rattle.xod_base.specs.declared.answer.StmtError.TheVariants.{NoEntity}
use Rattle.xod_base.specs.declared.value.EntityId.{EntityId}
use Rattle.xod_base.specs.declared.value.Value.{Value}
use Rattle.xod_base.specs.Rows.{RowsValue, is_drawn, next_of}
use Rattle.xod_journal.specs.Changes.{kind_number}
use Rattle.xod_journal.specs.Shows.{links_of, name_at, props_of, shown_of}
use Rattle.xod_carry.proofs.CallerLemmas.{each_get}
use Rattle.xod_tables.proofs.CallerLemmas.{Facts, id_same, id_total, is_some_at, not_none}
use Rattle.xod_reader.specs.declared.parts.NamedLink.{NamedLink}
use Rattle.xod_reader.specs.declared.parts.NamedValue.{NamedValue}
use Rattle.xod_reader.specs.Named.{named_targets, named_values}
use Rattle.xod_estxn.specs.Shows.{shown_in}

-- ---- the name of its type

listed_next : (nexts : List ℕ) (kind local : ℕ) → local < next_of nexts kind → kind < length nexts
listed_next [] kind local lt = absurd (omega (arith, lt))
listed_next (first ∷ more) zero local lt = omega arith
listed_next (first ∷ more) (suc kind) local lt = let within = listed_next more kind local lt in omega (arith, within)

-- a name within a list stands there
named : (names : List (List ℕ)) (n : ℕ) → n < length names → slice_get names n ≡ Some (name_at names n)
named [] n lt = absurd (omega (arith, lt))
named (name ∷ names) zero lt = refl
named (name ∷ names) (suc n) lt = named names n (omega (arith, lt))

-- an entity that is there has a type with a name
pub type_named : (rows : RowsValue) → Facts rows → (id : EntityId) → is_some (get rows.ids id) ≡ true
    → slice_get rows.types id.kind ≡ Some (name_at rows.types id.kind)
type_named rows f id there =
    let found = is_some_at (get rows.ids id) there in
    let drawn = each_get id_total id_same (λ e. is_drawn rows.nexts e.0 ≡ true) rows.ids id found.0 f.ids found.1 in
    let within = listed_next rows.nexts id.kind id.local (ltb-true id.local (next_of rows.nexts id.kind) drawn) in
    let many = f.as_many in
    named rows.types id.kind (omega (arith, within, many))

-- ---- what was read

-- what belongs to an entity that is there
abbrev belongs : RowsValue → EntityId → Shown
belongs rows id = record { id = id; kind = name_at rows.types id.kind; props = props_of rows id; links = links_of rows id }

pub absent : (rows : RowsValue) (id : EntityId) → false ≡ is_some (get rows.ids id) → None ≡ shown_in rows id
absent rows id gone = ap (λ b. cond b (Some (belongs rows id)) None) gone

pub present : (rows : RowsValue) (id : EntityId) (kind : List ℕ) (props : List (List ℕ × Value)) (links : List (List ℕ × EntityId))
    → IsTrue (is_some (get rows.ids id))
    → name_at rows.types id.kind ≡ kind → props ≡ props_of rows id → links ≡ links_of rows id
    → Some (record { id = id; kind = kind; props = props; links = links }) ≡ shown_in rows id
present rows id kind props links there is props_are links_are =
    (λ i. Some (record { id = id; kind = sym is i; props = props_are i; links = links_are i }))
    ∙ ap (λ b. cond b (Some (belongs rows id)) None) (sym there)

-- ---- what is answered

shown_there : (b : Bool) (belongs shown : Shown) (error : StmtError) → Some shown ≡ cond b (Some belongs) None
    → ◌≡◌ {A = Result Shown StmtError} (cond (not b) (Err error) (Ok belongs)) (Ok shown)
shown_there true belongs shown error is = let same : Some shown ≡ Some belongs = is in ap Ok (sym (cc same))
shown_there false belongs shown error is = absurd (not_none shown is)

shown_not : (b : Bool) (belongs : Shown) (error : StmtError) → None ≡ cond b (Some belongs) None
    → ◌≡◌ {A = Result Shown StmtError} (cond (not b) (Err error) (Ok belongs)) (Err error)
shown_not true belongs error is = absurd (not_none belongs (sym is))
shown_not false belongs error is = refl

pub shown-some : (rows : RowsValue) (id : EntityId) (shown : Shown) → Some shown ≡ shown_in rows id → shown_of rows id ≡ Ok shown
shown-some rows id shown is = shown_there (is_some (get rows.ids id)) _ shown (NoEntity id) is

pub shown-none : (rows : RowsValue) (id : EntityId) → None ≡ shown_in rows id → shown_of rows id ≡ Err (NoEntity id)
shown-none rows id is = shown_not (is_some (get rows.ids id)) _ (NoEntity id) is

-- ---- parts without numbers

pub values-parts : (rows : RowsValue) (id : EntityId) → map (λ (value : NamedValue). (value.name, value.value)) (named_values rows id) ≡ props_of rows id
values-parts rows id = over (props_of rows id)
  where
    over : (props : List (List ℕ × Value))
        → map (λ (value : NamedValue). (value.name, value.value))
        (map (λ prop. record { number = kind_number rows.props prop.0; name = prop.0; value = prop.1 }) props) ≡ props
    over [] = refl
    over (prop ∷ props) = ap (λ ps. prop ∷ ps) (over props)

pub links-parts : (rows : RowsValue) (id : EntityId) → map (λ (link : NamedLink). (link.name, link.end)) (named_targets rows id) ≡ links_of rows id
links-parts rows id = over (links_of rows id)
  where
    over : (links : List (List ℕ × EntityId))
        → map (λ (link : NamedLink). (link.name, link.end))
        (map (λ link. record { number = kind_number rows.links link.0; name = link.0; end = link.1 }) links) ≡ links
    over [] = refl
    over (link ∷ links) = ap (λ ls. link ∷ ls) (over links)
