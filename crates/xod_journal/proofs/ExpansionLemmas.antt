-- The changes of an act fit one after another.
use Rattle.std.proofs.Common.{◌≡◌, ◌≢◌, ℕ, Bool, true, false, cond, List, [], ◌∷◌, ◌++◌, map, length, Option, Some, None, Result, Ok, Err, refl, sym, ap, subst, ◌∙◌, eq-eqb}
use Rattle.std.specs.Prelude.{◌&&◌, ◌||◌, not, is_some, nat_lt, nat_le}
use Rattle.std.specs.List.{list_all, list_any, filter}
use Rattle.std.specs.Ordering.{eq_by_cmp, is_eq}
use Rattle.std.specs.Cmp.Lexicographic.{bytes_decides}
use Rattle.std.specs.Cmp.{tied_itself, int_cmp_total}
use Rattle.std.specs.FinMap.{FinMap, find, get, entries, keys, remove, is_sorted, get-entries}
use Rattle.std.specs.FinMap.Entries.{below_all}
use Rattle.std.proofs.lemmas.Bool.{false≢true}
use Rattle.xod_base.specs.declared.value.EntityId.{EntityId}
use Rattle.xod_base.specs.declared.value.Value.{Value}
use Rattle.xod_base.specs.declared.value.Value.TheVariants.{Flag, Int, Text}
use Rattle.xod_base.specs.declared.query.Act.{Act}
use Rattle.xod_base.specs.declared.query.Act.TheVariants as act
use Rattle.xod_base.specs.declared.answer.StmtError.{StmtError}
use Rattle.xod_base.specs.declared.answer.StmtError.TheVariants.{TooMany}
use Rattle.xod_base.specs.declared.answer.NameKind.TheVariants.{Props, Links}
use Rattle.xod_base.specs.declared.limits.TheConstants.{MOST_NAMES, MOST_LOCALS, LONGEST_TEXT}
use Rattle.xod_base.specs.Values.{same_value, same_bytes}
use Rattle.xod_base.specs.Rows.{RowsValue, Cell, LinkKey, cell_cmp, link_cmp, same_id, is_listed, next_of, has_name_length, text_length}
use Rattle.xod_base.specs.Evaluation.{targets_of, is_link_of}
use Rattle.xod_journal.specs.declared.change.RowChange.{RowChange}
use Rattle.xod_journal.specs.declared.change.RowChange.TheVariants.{AddEntity, RemoveEntity, Prop, LinkAdd, LinkDel}
use Rattle.xod_journal.specs.Changes.{fits, applied, all_applied, all_fit, has_room, kind_number, same_option, is_listed_name, are_all_named, is_at_end, is_in_use, link_gone, props_gone, links_out_gone, links_in_gone, targets_gone, has_join, link_behind, between, new_expansion, set_expansion, unset_changes, unlink_expansion, expansion_of, has_names}
use Rattle.xod_journal.proofs.ListLemmas.{both, two, all_filtered}
use Rattle.xod_journal.proofs.NameLemmas.{same_name}
use Rattle.xod_journal.proofs.KeyLemmas.{cell_total, cell_same, link_total, link_same, same_id-is}
use Rattle.xod_journal.proofs.GoneLemmas.{equal_of, gone, Held, held_all, held_some, held_after, sorted_all, sorted_some, gone_none, gone_others, gone_test, none_left}

-- ---- values

pub same_value-itself : (v : Value) → same_value v v ≡ true
same_value-itself (Flag true) = refl
same_value-itself (Flag false) = refl
same_value-itself (Int n) = ap is_eq (tied_itself int_cmp_total n)
same_value-itself (Text t) = same_name t t refl

-- ---- lists of changes

-- a list fits where its front does, and the rest after it
pub all_fit-append : (rows : RowsValue) (xs ys : List RowChange) → all_fit rows xs ≡ true → all_fit (all_applied rows xs) ys ≡ true → all_fit rows (xs ++ ys) ≡ true
all_fit-append rows [] ys h k = k
all_fit-append rows (x ∷ xs) ys h k =
    let t = two (fits rows x) (all_fit (applied rows x) xs) h in
    both _ _ t.0 (all_fit-append (applied rows x) xs ys t.1 k)

pub all_applied-append : (rows : RowsValue) (xs ys : List RowChange) → all_applied rows (xs ++ ys) ≡ all_applied (all_applied rows xs) ys
all_applied-append rows [] ys = refl
all_applied-append rows (x ∷ xs) ys = all_applied-append (applied rows x) xs ys

one_fits : (rows : RowsValue) (x : RowChange) → fits rows x ≡ true → all_fit rows (x ∷ []) ≡ true
one_fits rows x h = both _ _ h refl

-- a list that fits, and the rows after it
record Goes (rows : RowsValue) (changes : List RowChange) (now : RowsValue) : Type 0 where
  fit : all_fit rows changes ≡ true
  after : all_applied rows changes ≡ now

goes_on : (rows between now : RowsValue) (xs ys : List RowChange) → Goes rows xs between → Goes between ys now → Goes rows (xs ++ ys) now
goes_on rows between now xs ys p q = record {
  fit = all_fit-append rows xs ys p.fit (subst (λ r. all_fit r ys ≡ true) (sym p.after) q.fit);
  after = all_applied-append rows xs ys ∙ ap (λ r. all_applied r ys) p.after ∙ q.after;
}

-- ---- properties that go

abbrev prop_gone : EntityId → Cell × Value → RowChange
prop_gone id cell = Prop id cell.0.1 (Some cell.1) None

-- a property of an entity under a listed name
abbrev is_own : RowsValue → EntityId → Cell × Value → Bool
is_own rows id cell = same_id cell.0.0 id && is_listed_name rows.props cell.0.1

room_of : (names : List (List ℕ)) (name : List ℕ) → is_listed names name ≡ true → has_room names name ≡ true
room_of names name h = ap (λ b. b || nat_lt (length names) MOST_NAMES) h

old_is : (old : Option Value) (value : Value) → old ≡ Some value → same_option (Some value) old ≡ true
old_is old value e = ap (same_option (Some value)) e ∙ same_value-itself value

prop_fits : (rows : RowsValue) (id : EntityId) (name : List ℕ) (value : Value) → is_some (get rows.ids id) ≡ true → is_listed_name rows.props name ≡ true → get rows.values (id, name) ≡ Some value → fits rows (Prop id name (Some value) None) ≡ true
prop_fits rows id name value there named held =
    let t = two (has_name_length name) (is_listed rows.props name) named in
    λ i. t.0 i && room_of rows.props name t.1 i && there i && old_is (get rows.values (id, name)) value held i && true && true

props_go : (id : EntityId) (rows : RowsValue) (es : List (Cell × Value)) → is_some (get rows.ids id) ≡ true → list_all (is_own rows id) es ≡ true → is_sorted cell_cmp es ≡ true → Held rows.values es
    → Goes rows (map (prop_gone id) es) (record rows { values = gone rows.values es })
props_go id rows [] there own sorted held = record { fit = refl; after = refl }
props_go id rows (e ∷ es) there own sorted held =
    let o = two (is_own rows id e) (list_all (is_own rows id) es) own in
    let p = two (same_id e.0.0 id) (is_listed_name rows.props e.0.1) o.0 in
    let s = two (below_all cell_cmp e.0 es) (is_sorted cell_cmp es) sorted in
    let key : ◌≡◌ {A = Cell} e.0 (id, e.0.1) = λ i. (same_id-is e.0.0 id p.0 i, e.0.1) in
    let rest : Goes (record rows { values = remove rows.values e.0 }) (map (prop_gone id) es) (record rows { values = gone (remove rows.values e.0) es }) =
    props_go id (record rows { values = remove rows.values e.0 }) es there o.1 s.1 (held_after cell_total rows.values e.0 es s.0 held.1) in
    let same : applied rows (prop_gone id e) ≡ record rows { values = remove rows.values e.0 } = λ i. record rows { values = remove rows.values (sym key i) } in
    record {
      fit = both _ _ (prop_fits rows id e.0.1 e.1 there p.1 (ap (get rows.values) (sym key) ∙ held.0)) (subst (λ r. all_fit r (map (prop_gone id) es) ≡ true) (sym same) rest.fit);
      after = ap (λ r. all_applied r (map (prop_gone id) es)) same ∙ rest.after;
    }

-- ---- links that go

abbrev join_gone : LinkKey × Unit {0} → RowChange
join_gone e = link_gone e.0

abbrev pub is_named_join : LinkKey × Unit {0} → Bool
is_named_join e = has_name_length e.0.1.0

links_go : (rows : RowsValue) (es : List (LinkKey × Unit {0})) → list_all is_named_join es ≡ true → is_sorted link_cmp es ≡ true → Held rows.joined es
    → Goes rows (map join_gone es) (record rows { joined = gone rows.joined es })
links_go rows [] named sorted held = record { fit = refl; after = refl }
links_go rows (e ∷ es) named sorted held =
    let n = two (is_named_join e) (list_all is_named_join es) named in
    let s = two (below_all link_cmp e.0 es) (is_sorted link_cmp es) sorted in
    let rest = links_go (record rows { joined = remove rows.joined e.0 }) es n.1 s.1 (held_after link_total rows.joined e.0 es s.0 held.1) in
    record {
      fit = both _ _ (both _ _ n.0 (ap is_some held.0)) rest.fit;
      after = rest.after;
    }

-- the entries of a map, under a function that reads their keys alone
map_keys : {K X A : Type 0} (f : K → A) (p : K → Bool) (es : List (K × X)) → map f (filter p (map (λ e. e.0) es)) ≡ map (λ e. f e.0) (filter (λ e. p e.0) es)
map_keys f p [] = refl
map_keys f p (e ∷ es) = elim (p e.0) as (λ b. map f (cond b (e.0 ∷ filter p (map (λ x. x.0) es)) (filter p (map (λ x. x.0) es))) ≡ map (λ x. f x.0) (cond b (e ∷ filter (λ x. p x.0) es) (filter (λ x. p x.0) es))) [
  | true ↦ ap (λ xs. f e.0 ∷ xs) (map_keys f p es)
  | false ↦ map_keys f p es
]

filter_map : {A B : Type 0} (f : A → B) (q : B → Bool) (xs : List A) → filter q (map f xs) ≡ map f (filter (λ x. q (f x)) xs)
filter_map f q [] = refl
filter_map f q (x ∷ xs) = elim (q (f x)) as (λ b. cond b (f x ∷ filter q (map f xs)) (filter q (map f xs)) ≡ map f (cond b (x ∷ filter (λ y. q (f y)) xs) (filter (λ y. q (f y)) xs))) [
  | true ↦ ap (λ ys. f x ∷ ys) (filter_map f q xs)
  | false ↦ filter_map f q xs
]

-- what passes a test, and another one with it
all_passing : {A : Type 0} (p : A → Bool) (xs : List A) → list_all p (filter p xs) ≡ true
all_passing p [] = refl
all_passing p (x ∷ xs) = elim (p x) as (λ b. p x ≡ b → list_all p (cond b (x ∷ filter p xs) (filter p xs)) ≡ true) [
  | true ↦ λ is. both _ _ is (all_passing p xs)
  | false ↦ λ _. all_passing p xs
] refl

all_both : {A : Type 0} (p q : A → Bool) (xs : List A) → list_all p xs ≡ true → list_all q xs ≡ true → list_all (λ x. p x && q x) xs ≡ true
all_both p q [] h k = refl
all_both p q (x ∷ xs) h k =
    let t = two (p x) (list_all p xs) h in
    let u = two (q x) (list_all q xs) k in
    both _ _ (both _ _ t.0 u.0) (all_both p q xs t.1 u.1)

all_first : {A : Type 0} (p q : A → Bool) (xs : List A) → list_all (λ x. p x && q x) xs ≡ true → list_all p xs ≡ true
all_first p q [] h = refl
all_first p q (x ∷ xs) h =
    let t = two (p x && q x) (list_all (λ y. p y && q y) xs) h in
    both _ _ (two (p x) (q x) t.0).0 (all_first p q xs t.1)

-- the links of a map whose keys pass a test are taken out
some_links_go : (rows : RowsValue) (all : FinMap link_cmp (Unit {0})) (p : LinkKey × Unit {0} → Bool) → list_all is_named_join (entries all) ≡ true → Held rows.joined (filter p (entries all))
    → Goes rows (map join_gone (filter p (entries all))) (record rows { joined = gone rows.joined (filter p (entries all)) })
some_links_go rows all p named held =
    links_go rows (filter p (entries all)) (all_filtered is_named_join p (entries all) named) (sorted_some link_total p (entries all) (sorted_all link_total all)) held

-- ---- a deleted entity

abbrev own_cell : EntityId → Cell → Bool
own_cell id cell = same_id cell.0 id

abbrev is_out : EntityId → LinkKey → Bool
is_out id link = same_id link.0 id

abbrev is_in : EntityId → LinkKey → Bool
is_in id link = same_id link.1.1 id && not (same_id link.0 id)

untrue : (b : Bool) → not b ≡ true → b ≡ false
untrue true h = absurd (false≢true h)
untrue false h = refl

true_not_false : (b : Bool) → b ≡ true → b ≡ false → ⊥
true_not_false b h k = false≢true (sym k ∙ h)

-- links that come in from others are not among those that go out
in_not_out : (id : EntityId) (m : FinMap link_cmp (Unit {0})) (es : List (LinkKey × Unit {0})) → list_all (λ e. is_in id e.0) es ≡ true → Held m es
    → Held (gone m (filter (λ e. is_out id e.0) (entries m))) es
in_not_out id m [] own held = tt
in_not_out id m (e ∷ es) own held =
    let t = two (is_in id e.0) (list_all (λ x. is_in id x.0) es) own in
    let out : is_out id e.0 ≡ false = untrue (is_out id e.0) (two (same_id e.0.1.1 id) (not (is_out id e.0)) t.0).1 in
    (gone_others link_total m (filter (λ x. is_out id x.0) (entries m)) e.0 (not_among e.0 (entries m) out) ∙ held.0, in_not_out id m es t.1 held.1)
  where
    step : (q : LinkKey) (x : LinkKey) → is_out id q ≡ false → is_out id x ≡ true → eq_by_cmp link_cmp q x ≡ false
    step q x other is = unlike (eq_by_cmp link_cmp q x) (λ tied. true_not_false (is_out id x) is (subst (λ k. is_out id k ≡ false) (link_same q x (equal_of (link_cmp q x) tied)) other))
      where
        unlike : (b : Bool) → (b ≢ true) → b ≡ false
        unlike true h = absurd (h refl)
        unlike false h = refl

    not_among : (q : LinkKey) (xs : List (LinkKey × Unit {0})) → is_out id q ≡ false → list_any (eq_by_cmp link_cmp q) (map (λ x. x.0) (filter (λ x. is_out id x.0) xs)) ≡ false
    not_among q [] other = refl
    not_among q (x ∷ xs) other =
        elim (is_out id x.0) as (λ b. is_out id x.0 ≡ b → list_any (eq_by_cmp link_cmp q) (map (λ y. y.0) (cond b (x ∷ filter (λ y. is_out id y.0) xs) (filter (λ y. is_out id y.0) xs))) ≡ false) [
          | true ↦ λ is. λ i. step q x.0 other is i || not_among q xs other i
          | false ↦ λ _. not_among q xs other
        ] refl

-- the rows when nothing belongs to an entity any more
abbrev emptied : RowsValue → EntityId → RowsValue
emptied rows id = record rows {
  values = gone rows.values (filter (λ e. own_cell id e.0) (entries rows.values));
  joined = gone (gone rows.joined (filter (λ e. is_out id e.0) (entries rows.joined))) (filter (λ e. is_in id e.0) (entries rows.joined));
}

not_in_use : (rows : RowsValue) (id : EntityId) → is_in_use (emptied rows id) id ≡ false
not_in_use rows id = λ i. cells i || links i
  where
    cells : list_any (own_cell id) (keys (emptied rows id).values) ≡ false
    cells = none_left cell_total (own_cell id) (emptied rows id).values (gone_test cell_total cell_same (own_cell id) rows.values rows.values (λ q n. n))

    outs : (q : LinkKey) → is_out id q ≡ true → get (gone rows.joined (filter (λ e. is_out id e.0) (entries rows.joined))) q ≡ None
    outs = gone_test link_total link_same (is_out id) rows.joined rows.joined (λ q n. n)

    ends : (q : LinkKey) → is_at_end id q ≡ true → get (emptied rows id).joined q ≡ None
    ends q h = elim (is_out id q) as (λ b. is_out id q ≡ b → (b || same_id q.1.1 id) ≡ true → get (emptied rows id).joined q ≡ None) [
      | true ↦ λ is _. gone_none link_total (gone rows.joined (filter (λ e. is_out id e.0) (entries rows.joined))) (filter (λ e. is_in id e.0) (entries rows.joined)) q (outs q is)
      | false ↦ λ is to. gone_test link_total link_same (is_in id) rows.joined (gone rows.joined (filter (λ e. is_out id e.0) (entries rows.joined)))
          (λ k n. gone_none link_total rows.joined (filter (λ e. is_out id e.0) (entries rows.joined)) k n) q (both _ _ to (ap not is))
    ] refl h

    links : list_any (is_at_end id) (keys (emptied rows id).joined) ≡ false
    links = none_left link_total (is_at_end id) (emptied rows id).joined ends

pub record Named (rows : RowsValue) : Type 0 where
  pub cells : list_all (λ e. is_listed_name rows.props e.0.1) (entries rows.values) ≡ true
  pub links : list_all is_named_join (entries rows.joined) ≡ true

pub named_facts : (rows : RowsValue) → are_all_named rows ≡ true → Named rows
named_facts rows h =
    let t = two (list_all (λ e. is_listed_name rows.props e.0.1) (entries rows.values)) (list_all (λ e. is_listed_name rows.links e.0.1.0) (entries rows.joined)) h in
    record { cells = t.0; links = all_first is_named_join (λ e. is_listed rows.links e.0.1.0) (entries rows.joined) t.1 }

delete_goes : (rows : RowsValue) (id : EntityId) → Named rows → is_some (get rows.ids id) ≡ true
    → all_fit rows (props_gone rows id ++ (links_out_gone rows id ++ (links_in_gone rows id ++ (RemoveEntity id ∷ [])))) ≡ true
delete_goes rows id n there =
    let cells = filter (λ e. own_cell id e.0) (entries rows.values) in
    let outs = filter (λ e. is_out id e.0) (entries rows.joined) in
    let ins = filter (λ e. is_in id e.0) (entries rows.joined) in
    let bare : RowsValue = record rows { values = gone rows.values cells } in
    let left : RowsValue = record bare { joined = gone rows.joined outs } in
    let first : Goes rows (map (prop_gone id) cells) bare = props_go id rows cells there
    (all_both (λ e. own_cell id e.0) (λ e. is_listed_name rows.props e.0.1) cells (all_passing (λ e. own_cell id e.0) (entries rows.values)) (all_filtered (λ e. is_listed_name rows.props e.0.1) (λ e. own_cell id e.0) (entries rows.values) n.cells))
    (sorted_some cell_total (λ e. own_cell id e.0) (entries rows.values) (sorted_all cell_total rows.values))
    (held_some cell_total rows.values (λ e. own_cell id e.0) (entries rows.values) (held_all cell_total rows.values)) in
    let second : Goes bare (map join_gone outs) left = some_links_go bare rows.joined (λ e. is_out id e.0) n.links (held_some link_total rows.joined (λ e. is_out id e.0) (entries rows.joined) (held_all link_total rows.joined)) in
    let third : Goes left (map join_gone ins) (emptied rows id) = some_links_go left rows.joined (λ e. is_in id e.0) n.links
    (in_not_out id rows.joined ins (all_passing (λ e. is_in id e.0) (entries rows.joined)) (held_some link_total rows.joined (λ e. is_in id e.0) (entries rows.joined) (held_all link_total rows.joined))) in
    let last : Goes (emptied rows id) (RemoveEntity id ∷ []) (record (emptied rows id) { ids = remove rows.ids id }) = record { fit = both _ _ (both _ _ there (ap not (not_in_use rows id))) refl; after = refl } in
    let whole = goes_on rows bare _ (map (prop_gone id) cells) _ first (goes_on bare left _ (map join_gone outs) _ second (goes_on left (emptied rows id) _ (map join_gone ins) (RemoveEntity id ∷ []) third last)) in
    subst (λ xs. all_fit rows (props_gone rows id ++ xs) ≡ true) (λ i. sym (map_keys link_gone (is_out id) (entries rows.joined)) i ++ (sym (map_keys link_gone (is_in id) (entries rows.joined)) i ++ (RemoveEntity id ∷ []))) whole.fit

-- ---- the links of an entity by a name

links_are : (source : EntityId) (link : List ℕ) (es : List (LinkKey × Unit {0})) → list_all (λ e. is_link_of source link e.0) es ≡ true → map join_gone es ≡ targets_gone source link (map (λ e. e.0.1.1) es)
links_are source link [] h = refl
links_are source link (e ∷ es) h =
    let t = two (is_link_of source link e.0) (list_all (λ x. is_link_of source link x.0) es) h in
    let u = two (same_id e.0.0 source) (same_bytes e.0.1.0 link) t.0 in
    let from = same_id-is e.0.0 source u.0 in
    let by = (bytes_decides e.0.1.0 link).0 u.1 in
    λ i. LinkDel (from i) (by i) e.0.1.1 ∷ links_are source link es t.1 i

-- some of them go
abbrev chosen : RowsValue → EntityId → List ℕ → (EntityId → Bool) → List (LinkKey × Unit {0})
chosen rows source link q = filter (λ e. q e.0.1.1) (filter (λ e. is_link_of source link e.0) (entries rows.joined))

chosen_go : (rows : RowsValue) (source : EntityId) (link : List ℕ) (q : EntityId → Bool) → Named rows
    → Goes rows (targets_gone source link (filter q (targets_of rows link source))) (record rows { joined = gone rows.joined (chosen rows source link q) })
chosen_go rows source link q n =
    let own = filter (λ e. is_link_of source link e.0) (entries rows.joined) in
    let p : LinkKey × Unit {0} → Bool = λ e. q e.0.1.1 in
    let goes = links_go rows (filter p own) (all_filtered is_named_join p own (all_filtered is_named_join (λ e. is_link_of source link e.0) (entries rows.joined) n.links))
    (sorted_some link_total p own (sorted_some link_total (λ e. is_link_of source link e.0) (entries rows.joined) (sorted_all link_total rows.joined)))
    (held_some link_total rows.joined p own (held_some link_total rows.joined (λ e. is_link_of source link e.0) (entries rows.joined) (held_all link_total rows.joined))) in
    let targets : filter q (targets_of rows link source) ≡ map (λ e. e.0.1.1) (filter p own) =
    ap (filter q) (map_keys (λ l. l.1.1) (is_link_of source link) (entries rows.joined)) ∙ filter_map (λ e. e.0.1.1) q own in
    subst (λ xs. Goes rows xs (record rows { joined = gone rows.joined (filter p own) }))
    (links_are source link (filter p own) (all_filtered (λ e. is_link_of source link e.0) p own (all_passing (λ e. is_link_of source link e.0) (entries rows.joined))) ∙ ap (targets_gone source link) (sym targets)) goes

-- all of them are those that pass the test that all pass
filter_all : {A : Type 0} (xs : List A) → filter (λ _. true) xs ≡ xs
filter_all [] = refl
filter_all (x ∷ xs) = ap (λ ys. x ∷ ys) (filter_all xs)

-- ---- each act

abbrev changes_in : Result (List RowChange) StmtError → List RowChange
changes_in (Ok changes) = changes
changes_in (Err error) = []

abbrev is_fine : Result (List RowChange) StmtError → Bool
is_fine (Ok changes) = true
is_fine (Err error) = false

-- what is refused unless a test holds, and was not refused
unless : (b : Bool) (error : StmtError) (more : Result (List RowChange) StmtError) (changes : List RowChange) → cond (not b) (Err error) more ≡ Ok changes → (b ≡ true) × (more ≡ Ok changes)
unless true error more changes h = (refl, h)
unless false error more changes h = absurd (false≢true (ap is_fine h))

then_fits : (rows : RowsValue) (found changes : List RowChange) → ◌≡◌ {A = Result (List RowChange) StmtError} (Ok found) (Ok changes) → all_fit rows found ≡ true → all_fit rows changes ≡ true
then_fits rows found changes e h = subst (λ xs. all_fit rows xs ≡ true) (ap changes_in e) h

module _ (rows : RowsValue) (n : Named rows) where
  fits_new : (kind : List ℕ) (changes : List RowChange) → has_name_length kind ≡ true → new_expansion rows kind (kind_number rows.types kind) ≡ Ok changes → all_fit rows changes ≡ true
  fits_new kind changes named h =
      let number = kind_number rows.types kind in
      let t = unless (has_room rows.types kind) _ _ changes h in
      let u = unless (nat_lt (next_of rows.nexts number) MOST_LOCALS) _ _ changes t.1 in
      then_fits rows _ changes u.1 (one_fits rows (AddEntity (record { kind = number; local = next_of rows.nexts number }) kind) (λ i. named i && t.0 i && eq-eqb number number refl i && eq-eqb (next_of rows.nexts number) (next_of rows.nexts number) refl i && u.0 i))

  fits_set : (id : EntityId) (prop : List ℕ) (value : Value) (old : Option Value) (changes : List RowChange) → get rows.values (id, prop) ≡ old → has_name_length prop ≡ true → set_expansion rows id prop value old ≡ Ok changes → all_fit rows changes ≡ true
  fits_set id prop value old changes is named h =
      let t = unless (is_some (get rows.ids id)) _ _ changes h in
      let u = unless (nat_le (text_length value) LONGEST_TEXT) _ _ changes t.1 in
      elim (same_option old (Some value)) as (λ b. same_option old (Some value) ≡ b → cond b (Ok []) (cond (not (has_room rows.props prop)) (Err (TooMany Props MOST_NAMES)) (Ok (Prop id prop old (Some value) ∷ []))) ≡ Ok changes → all_fit rows changes ≡ true) [
        | true ↦ λ _ k. then_fits rows _ changes k refl
        | false ↦ λ other k.
            let v = unless (has_room rows.props prop) _ _ changes k in
            then_fits rows _ changes v.1 (one_fits rows (Prop id prop old (Some value)) (λ i. named i && v.0 i && t.0 i && (ap (same_option old) is ∙ itself old) i && ap not other i && u.0 i))
      ] refl u.1
    where
      itself : (o : Option Value) → same_option o o ≡ true
      itself None = refl
      itself (Some v) = same_value-itself v

  fits_unset : (id : EntityId) (prop : List ℕ) (old : Option Value) (changes : List RowChange) → get rows.values (id, prop) ≡ old → is_some (get rows.ids id) ≡ true → unset_changes id prop old ≡ changes → all_fit rows changes ≡ true
  fits_unset id prop None changes is there h = subst (λ xs. all_fit rows xs ≡ true) h refl
  fits_unset id prop (Some value) changes is there h = subst (λ xs. all_fit rows xs ≡ true) h (one_fits rows (Prop id prop (Some value) None) (prop_fits rows id prop value there (named_at is) is))
    where
      at_entry : (p : Cell → Bool) (es : List (Cell × Value)) → list_all (λ e. p e.0) es ≡ true → (q : Cell) (v : Value) → find cell_cmp q es ≡ Some v → p q ≡ true
      at_entry p [] h q v e = absurd (false≢true (ap is_some e))
      at_entry p (x ∷ es) h q v e =
          let t = two (p x.0) (list_all (λ y. p y.0) es) h in
          elim (eq_by_cmp cell_cmp q x.0) as (λ b. eq_by_cmp cell_cmp q x.0 ≡ b → cond b (Some x.1) (find cell_cmp q es) ≡ Some v → p q ≡ true) [
            | true ↦ λ tied _. subst (λ k. p k ≡ true) (sym (cell_same q x.0 (equal_of (cell_cmp q x.0) tied))) t.0
            | false ↦ λ _ later. at_entry p es t.1 q v later
          ] refl e

      named_at : get rows.values (id, prop) ≡ Some value → is_listed_name rows.props prop ≡ true
      named_at e = at_entry (λ cell. is_listed_name rows.props cell.1) (entries rows.values) n.cells (id, prop) value (sym (get-entries rows.values (id, prop)) ∙ e)

  -- a link behind changes that take others away
  fits_link : (source : EntityId) (link : List ℕ) (target : EntityId) (before changes : List RowChange) (es : List (LinkKey × Unit {0})) → has_name_length link ≡ true
      → is_some (get rows.ids source) ≡ true → is_some (get rows.ids target) ≡ true → Goes rows before (record rows { joined = gone rows.joined es })
      → link_behind rows source link target before ≡ Ok changes → all_fit rows changes ≡ true
  fits_link source link target before changes es named from to goes h =
      elim (has_join rows source link target) as (λ b. has_join rows source link target ≡ b → cond b (Ok before) (cond (not (has_room rows.links link)) (Err (TooMany Links MOST_NAMES)) (Ok (before ++ LinkAdd source link target ∷ []))) ≡ Ok changes → all_fit rows changes ≡ true) [
        | true ↦ λ _ k. then_fits rows _ changes k goes.fit
        | false ↦ λ new k.
            let v = unless (has_room rows.links link) _ _ changes k in
            let now : RowsValue = record rows { joined = gone rows.joined es } in
            let none : get now.joined (source, (link, target)) ≡ None = gone_none link_total rows.joined es (source, (link, target)) (absent (get rows.joined (source, (link, target))) new) in
            let last : Goes now (LinkAdd source link target ∷ []) (applied now (LinkAdd source link target)) = record { fit = one_fits now (LinkAdd source link target) (λ i. named i && v.0 i && from i && to i && not (is_some (none i))); after = refl } in
            then_fits rows _ changes v.1 (goes_on rows now _ before _ goes last).fit
      ] refl h
    where
      absent : (o : Option (Unit {0})) → is_some o ≡ false → o ≡ None
      absent None e = refl
      absent (Some x) e = absurd (false≢true (sym e))

  fits_between : (source target : EntityId) (expansion : Result (List RowChange) StmtError) (changes : List RowChange) → between rows source target expansion ≡ Ok changes
      → (is_some (get rows.ids source) ≡ true) × (is_some (get rows.ids target) ≡ true) × (expansion ≡ Ok changes)
  fits_between source target expansion changes h =
      let t = unless (is_some (get rows.ids source)) _ _ changes h in
      let u = unless (is_some (get rows.ids target)) _ _ changes t.1 in
      (t.0, u.0, u.1)

  fits_unlink : (source : EntityId) (link : List ℕ) (target : EntityId) (changes : List RowChange) → has_name_length link ≡ true → unlink_expansion rows source link target ≡ Ok changes → all_fit rows changes ≡ true
  fits_unlink source link target changes named h =
      let t = unless (is_some (get rows.ids source)) _ _ changes h in
      elim (has_join rows source link target) as (λ b. has_join rows source link target ≡ b → ◌≡◌ {A = Result (List RowChange) StmtError} (cond {A = Result (List RowChange) StmtError} b (Ok (LinkDel source link target ∷ [])) (Ok [])) (Ok changes) → all_fit rows changes ≡ true) [
        | true ↦ λ is k. then_fits rows (LinkDel source link target ∷ []) changes k (one_fits rows (LinkDel source link target) (both _ _ named is))
        | false ↦ λ _ k. then_fits rows [] changes k refl
      ] refl t.1

  pub each_fits : (asked : Act) (changes : List RowChange) → has_names asked ≡ true → expansion_of rows asked ≡ Ok changes → all_fit rows changes ≡ true
  each_fits (act.New kind) changes named h = fits_new kind changes named h
  each_fits (act.Delete id) changes named h =
      let t = unless (is_some (get rows.ids id)) _ _ changes h in
      then_fits rows _ changes t.1 (delete_goes rows id n t.0)
  each_fits (act.Set id prop value) changes named h = fits_set id prop value (get rows.values (id, prop)) changes refl named h
  each_fits (act.Unset id prop) changes named h =
      let t = unless (is_some (get rows.ids id)) _ _ changes h in
      fits_unset id prop (get rows.values (id, prop)) changes refl t.0 (ap changes_in t.1)
  each_fits (act.Link source link target) changes named h =
      let t = fits_between source target _ changes h in
      fits_link source link target [] changes [] named t.0 t.1 (record { fit = refl; after = refl }) t.2
  each_fits (act.SetLink source link target) changes named h =
      let t = fits_between source target _ changes h in
      let q : EntityId → Bool = λ other. not (same_id other target) in
      fits_link source link target _ changes (chosen rows source link q) named t.0 t.1 (chosen_go rows source link q n) t.2
  each_fits (act.Unlink source link target) changes named h = fits_unlink source link target changes named h
  each_fits (act.UnlinkAll source link) changes named h =
      let t = unless (is_some (get rows.ids source)) _ _ changes h in
      subst (λ xs. all_fit rows xs ≡ true) (ap (targets_gone source link) (filter_all (targets_of rows link source)) ∙ ap changes_in t.1) (chosen_go rows source link (λ _. true) n).fit

pub expansions_fit : (rows : RowsValue) (asked : Act) (changes : List RowChange) → are_all_named rows ≡ true → has_names asked ≡ true → expansion_of rows asked ≡ Ok changes → all_fit rows changes ≡ true
expansions_fit rows asked changes all named h = each_fits rows (named_facts rows all) asked changes named h
