-- No two entities, properties or links of rows have one key.
use Rattle.std.proofs.Common.{◌≡◌, ℕ, List, [], ◌∷◌, Some, None, Bool, true, false, cond, refl, sym, ap, subst, ◌∙◌, true≢false}
use Rattle.std.specs.Prelude.{is_some}
use Rattle.std.specs.Option.{option_map}
use Rattle.std.specs.List.{AllByRecursion, slice_get}
use Rattle.std.specs.Ordering.{eq_by_cmp}
use Rattle.std.specs.FinMap.{FinMap, find, entries}
use Rattle.xod_base.specs.declared.value.EntityId.{EntityId}
use Rattle.xod_base.specs.declared.value.Value.{Value}
use Rattle.xod_base.specs.Rows.{RowsValue, Cell, LinkKey, id_cmp, cell_cmp, link_cmp}
use Rattle.xod_base.specs.Values.{bytes_cmp, key_of}
use Rattle.xod_carry.specs.Laws.{IsOwn, Gives, IsAlone}
use Rattle.xod_carry.proofs.CallerLemmas.{bytes_same, tied_is, each_too}
use Rattle.xod_tables.specs.Keys.{IsShort, entity_key, property_key, index_key, link_key, back_key, cell_key, join_key, join_back_key, entries_at, index_entries}
use Rattle.xod_tables.specs.Reading.{id_in, cell_in}
use Rattle.xod_tables.proofs.Facts.{Facts, Listed, drawn_short, cells_fit, links_fit}
use Rattle.xod_tables.proofs.KeysApart.{index_apart, link_apart}
use Rattle.xod_tables.proofs.KeysRead.{id_read, cell_read}
use Rattle.xod_tables.proofs.Written.{same_some}

-- ---- entities
pub id_own : (ids : FinMap id_cmp (Unit {0})) → AllByRecursion (λ e. IsShort e.0) (entries ids) → (id : EntityId) → IsShort id → IsOwn (λ x. Some (entity_key x)) id (entries ids)
id_own ids all id s = each_too (λ e h l p q. same_some e.0 id (sym (back e.0 h l p) ∙ back id s l q)) (entries ids) all
  where
    back : (x : EntityId) → IsShort x → (l : List ℕ) → Some (entity_key x) ≡ Some l → id_in l ≡ Some x
    back x h l e = subst (λ k. id_in k ≡ Some x) (same_some (entity_key x) l e) (id_read x h)

pub ids_short : (rows : RowsValue) → Facts rows → AllByRecursion (λ e. IsShort e.0) (entries rows.ids)
ids_short rows f = each_too (λ e d. drawn_short rows f e.0 d) (entries rows.ids) f.ids

-- ---- properties

-- a property has a key in the trees
pub record HasKey (props : List (List ℕ)) (cell : Cell) : Type 0 where
  pub id : IsShort cell.0
  pub name : Listed props cell.1

abbrev pub HaveKeys : List (List ℕ) → FinMap cell_cmp Value → Type 0
HaveKeys props values = AllByRecursion (λ e. HasKey props e.0) (entries values)

pub cell_keys : (rows : RowsValue) → Facts rows → HaveKeys rows.props rows.values
cell_keys rows f = each_too (λ e c. record { id = c.id; name = c.name }) (entries rows.values) (cells_fit rows f)

module _ (props : List (List ℕ)) (cell : Cell) (k : HasKey props cell) where
  pub key_is : cell_key props cell ≡ Some (property_key cell.0 k.name.number)
  key_is = ap (option_map (property_key cell.0)) k.name.is

  key_back : (l : List ℕ) → cell_key props cell ≡ Some l → cell_in props l ≡ Some cell
  key_back l e = subst (λ key. cell_in props key ≡ Some cell) (same_some (property_key cell.0 k.name.number) l (sym key_is ∙ e)) (cell_read props cell.0 cell.1 k.name k.id)

  pub gives_is : (value : Value) → index_entries props (cell, value) ≡ (index_key cell.0 k.name.number (key_of value), []) ∷ []
  gives_is value = ap (entries_at cell.0 value) k.name.is

  -- the key that a property gives the index
  pub given_key : (value : Value) (l : List ℕ) → Gives (index_entries props) bytes_cmp (cell, value) l → l ≡ index_key cell.0 k.name.number (key_of value)
  given_key value l g = tied_is bytes_same l (index_key cell.0 k.name.number (key_of value))
      (found_true (eq_by_cmp bytes_cmp l (index_key cell.0 k.name.number (key_of value))) [] (sym (ap (λ o. is_some (find bytes_cmp l (entries_at cell.0 value o))) k.name.is) ∙ g))
    where
      found_true : (b : Bool) (there : List ℕ) → is_some (cond b (Some there) None) ≡ true → b ≡ true
      found_true true there e = refl
      found_true false there e = absurd (true≢false (sym e))

pub cell_own : (props : List (List ℕ)) (values : FinMap cell_cmp Value) → HaveKeys props values → (cell : Cell) → HasKey props cell → IsOwn (cell_key props) cell (entries values)
cell_own props values all cell k = each_too (λ e h l p q. same_some e.0 cell (sym (key_back props e.0 h l p) ∙ key_back props cell k l q)) (entries values) all

-- a property that gives the index a key of a property is that one
pub same_cell : (props : List (List ℕ)) (cell : Cell) (k : HasKey props cell) (key : List ℕ) (e : Cell × Value) → HasKey props e.0 → Gives (index_entries props) bytes_cmp e (index_key cell.0 k.name.number key) → e.0 ≡ cell
same_cell props cell k key e h g =
    let same = index_apart e.0.0 cell.0 h.name.number k.name.number (key_of e.1) key h.id k.id h.name.small k.name.small (sym (given_key props e.0 h e.1 (index_key cell.0 k.name.number key) g)) in
    let name = same_some e.0.1 cell.1 (sym h.name.at ∙ ap (slice_get props) same.1 ∙ k.name.at) in
    λ i. (same.0 i, name i)

pub cell_alone : (props : List (List ℕ)) (cell : Cell) → HasKey props cell → (value : Value) (values : FinMap cell_cmp Value) → HaveKeys props values → IsAlone (index_entries props) bytes_cmp (cell, value) (entries values)
cell_alone props cell k value values all = each_too (λ e h l g f. same_cell props cell k (key_of value) e h (subst (Gives (index_entries props) bytes_cmp e) (given_key props cell k value l f) g)) (entries values) all

-- ---- links

-- a link has keys in the trees
pub record HasLinkKey (links : List (List ℕ)) (link : LinkKey) : Type 0 where
  pub source : IsShort link.0
  pub name : Listed links link.1.0
  pub target : IsShort link.1.1

abbrev pub HaveLinkKeys : List (List ℕ) → FinMap link_cmp (Unit {0}) → Type 0
HaveLinkKeys links joined = AllByRecursion (λ e. HasLinkKey links e.0) (entries joined)

pub link_keys : (rows : RowsValue) → Facts rows → HaveLinkKeys rows.links rows.joined
link_keys rows f = each_too (λ e c. record { source = c.source; name = c.name; target = c.target }) (entries rows.joined) (links_fit rows f)

module _ (links : List (List ℕ)) (link : LinkKey) (k : HasLinkKey links link) where
  pub out_is : join_key links link ≡ Some (link_key link.0 k.name.number link.1.1)
  out_is = ap (option_map (λ number. link_key link.0 number link.1.1)) k.name.is

  pub back_is : join_back_key links link ≡ Some (back_key link.0 k.name.number link.1.1)
  back_is = ap (option_map (λ number. back_key link.0 number link.1.1)) k.name.is

module _ (links : List (List ℕ)) (joined : FinMap link_cmp (Unit {0})) (all : HaveLinkKeys links joined) (link : LinkKey) (k : HasLinkKey links link) where
  same_link : (x : LinkKey) (h : HasLinkKey links x) → x.0 ≡ link.0 → h.name.number ≡ k.name.number → x.1.1 ≡ link.1.1 → x ≡ link
  same_link x h a b c =
      let name = same_some x.1.0 link.1.0 (sym h.name.at ∙ ap (slice_get links) b ∙ k.name.at) in
      λ i. (a i, (name i, c i))

  pub out_own : IsOwn (join_key links) link (entries joined)
  out_own = each_too (λ e h l p q.
      let same = link_apart e.0.0 link.0 h.name.number k.name.number e.0.1.1 link.1.1 h.source k.source h.name.small k.name.small h.target k.target
      (same_some (link_key e.0.0 h.name.number e.0.1.1) l (sym (out_is links e.0 h) ∙ p) ∙ sym (same_some (link_key link.0 k.name.number link.1.1) l (sym (out_is links link k) ∙ q))) in
      same_link e.0 h same.0 same.1 same.2) (entries joined) all

  pub back_own : IsOwn (join_back_key links) link (entries joined)
  back_own = each_too (λ e h l p q.
      let same = link_apart e.0.1.1 link.1.1 h.name.number k.name.number e.0.0 link.0 h.target k.target h.name.small k.name.small h.source k.source
      (same_some (back_key e.0.0 h.name.number e.0.1.1) l (sym (back_is links e.0 h) ∙ p) ∙ sym (same_some (back_key link.0 k.name.number link.1.1) l (sym (back_is links link k) ∙ q))) in
      same_link e.0 h same.2 same.1 same.0) (entries joined) all
