-- What a query answers, by its rows alone.
use Rattle.std.specs.Prelude.{ℕ, Bool, true, false, not, ◌&&◌, List, [], ◌∷◌, ◌++◌, map, take, drop, Option, Some, None, is_some, ◌==◌}
use Rattle.std.specs.List.{filter, flat_map, list_any}
use Rattle.std.specs.declared.cmp.Ordering.{Ordering}
use Rattle.std.specs.declared.cmp.Ordering.TheVariants.{Less, Equal, Greater}
use Rattle.std.specs.Ordering.{ordering_then}
use Rattle.std.specs.FinMap.{get, keys}
use Rattle.xod_base.specs.declared.value.EntityId.{EntityId}
use Rattle.xod_base.specs.declared.value.Value.{Value}
use Rattle.xod_base.specs.declared.query.Direction.{Direction}
use Rattle.xod_base.specs.declared.query.Direction.TheVariants.{Up, Down}
use Rattle.xod_base.specs.declared.query.Query.{Query}
use Rattle.xod_base.specs.declared.query.Query.TheOpen.{Query-F}
use Rattle.xod_base.specs.declared.query.Query.TheOpen.{All, Find, Range, Prefix, With, WithLink, Linked, LinksOf, Union, Intersect, Minus, Targets, Sort, Skip, Take}
use Rattle.xod_base.specs.declared.query.Query.TheFolds.{fold-Query}
use Rattle.xod_base.specs.Values.{bytes_cmp, same_bytes, folded, key_of, has_key, has_key_within, has_front}
use Rattle.xod_base.specs.Rows.{RowsValue, LinkKey, id_cmp, same_id, number_of}

-- ---- lists of ids

-- whether a list has an id
abbrev pub has_id : List EntityId → EntityId → Bool
has_id ids id = list_any (same_id id) ids

-- an id put before the first that is greater, and nowhere where it is there
abbrev pub put_by : Ordering → EntityId → EntityId → List EntityId → List EntityId → List EntityId
put_by Less id first more later = id ∷ first ∷ more
put_by Equal id first more later = first ∷ more
put_by Greater id first more later = first ∷ later

abbrev pub put_id : EntityId → List EntityId → List EntityId
put_id id [] = id ∷ []
put_id id (first ∷ more) = put_by (id_cmp id first) id first more (put_id id more)

-- the ids of a list, each once, rising
abbrev pub rising : List EntityId → List EntityId
rising [] = []
rising (id ∷ ids) = put_id id (rising ids)

-- ---- the forms without parts

-- the ids of the type with a number, rising
abbrev pub ids_with_number : RowsValue → Option ℕ → List EntityId
ids_with_number rows None = []
ids_with_number rows (Some n) = filter (λ id. id.kind == n) (keys rows.ids)

-- the ids of a type
abbrev pub ids_of : RowsValue → List ℕ → List EntityId
ids_of rows kind = ids_with_number rows (number_of rows.types kind)

-- a test of a value that may be absent; an absent one does not pass
abbrev pub passes : (Value → Bool) → Option Value → Bool
passes test None = false
passes test (Some value) = test value

-- whether an entity has a property whose value passes a test
abbrev pub has_value : RowsValue → List ℕ → (Value → Bool) → EntityId → Bool
has_value rows prop test id = passes test (get rows.values (id, prop))

-- the ids of a type that have a property whose value passes a test
abbrev pub ids_with : RowsValue → List ℕ → List ℕ → (Value → Bool) → List EntityId
ids_with rows kind prop test = filter (has_value rows prop test) (ids_of rows kind)

-- whether a link is one of an entity's by a name
abbrev pub is_link_of : EntityId → List ℕ → LinkKey → Bool
is_link_of source name link = same_id link.0 source && same_bytes link.1.0 name

-- the targets of an entity's links by a name, rising
abbrev pub targets_of : RowsValue → List ℕ → EntityId → List EntityId
targets_of rows name source = map (λ link. link.1.1) (filter (is_link_of source name) (keys rows.joined))

-- whether an entity has a link by a name
abbrev pub has_link : RowsValue → List ℕ → EntityId → Bool
has_link rows name source = list_any (is_link_of source name) (keys rows.joined)

-- whether an entity is linked to another one by a name
abbrev pub is_linked : RowsValue → List ℕ → EntityId → EntityId → Bool
is_linked rows name target source = is_some (get rows.joined (source, (name, target)))

-- ---- order by a property

-- the key that an entity is sorted by, none where it has no such property
abbrev pub key_at : Option Value → Option (List ℕ)
key_at None = None
key_at (Some value) = Some (key_of value)

-- lower keys first, or higher ones; what has no key comes last in both
abbrev pub key_cmp : Direction → Option (List ℕ) → Option (List ℕ) → Ordering
key_cmp direction None None = Equal
key_cmp direction None (Some b) = Greater
key_cmp direction (Some a) None = Less
key_cmp Up (Some a) (Some b) = bytes_cmp a b
key_cmp Down (Some a) (Some b) = bytes_cmp b a

-- by the keys, and where these are equal by rising id
abbrev pub sort_cmp : RowsValue → List ℕ → Direction → EntityId → EntityId → Ordering
sort_cmp rows prop direction a b =
    ordering_then (key_cmp direction (key_at (get rows.values (a, prop))) (key_at (get rows.values (b, prop)))) (id_cmp a b)

-- an id put before the first that does not come before it
abbrev pub place_by : Ordering → EntityId → EntityId → List EntityId → List EntityId → List EntityId
place_by Less id first more later = id ∷ first ∷ more
place_by Equal id first more later = id ∷ first ∷ more
place_by Greater id first more later = first ∷ later

abbrev pub place_id : (EntityId → EntityId → Ordering) → EntityId → List EntityId → List EntityId
place_id cmp id [] = id ∷ []
place_id cmp id (first ∷ more) = place_by (cmp id first) id first more (place_id cmp id more)

-- a list in an order
abbrev pub sorted_by : (EntityId → EntityId → Ordering) → List EntityId → List EntityId
sorted_by cmp [] = []
sorted_by cmp (id ∷ ids) = place_id cmp id (sorted_by cmp ids)

-- ---- all forms

-- one level, with the answers of the parts
abbrev pub answer_at : RowsValue → Query-F (List EntityId) → List EntityId
answer_at rows (All kind) = ids_of rows kind
answer_at rows (Find kind prop value) = ids_with rows kind prop (has_key (key_of value))
answer_at rows (Range kind prop low high) = ids_with rows kind prop (has_key_within (key_of low) (key_of high))
answer_at rows (Prefix kind prop text) = ids_with rows kind prop (has_front (folded text))
answer_at rows (With kind prop) = ids_with rows kind prop (λ value. true)
answer_at rows (WithLink kind link) = filter (has_link rows link) (ids_of rows kind)
answer_at rows (Linked kind link target) = filter (is_linked rows link target) (ids_of rows kind)
answer_at rows (LinksOf source link) = targets_of rows link source
answer_at rows (Union left right) = rising (left ++ right)
answer_at rows (Intersect left right) = rising (filter (has_id right) left)
answer_at rows (Minus left right) = rising (filter (λ id. not (has_id right id)) left)
answer_at rows (Targets link of) = rising (flat_map (targets_of rows link) of)
answer_at rows (Sort prop direction of) = sorted_by (sort_cmp rows prop direction) of
answer_at rows (Skip count of) = drop count of
answer_at rows (Take count of) = take count of

-- The answer of a query: each id once; rising by id, but for `sort`, `skip` and `take`.
abbrev pub answer_of : Query → RowsValue → List EntityId
answer_of query rows = fold-Query (List EntityId) (answer_at rows) query
