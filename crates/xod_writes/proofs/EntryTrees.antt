-- Entities, properties and links that come, change and go, in their trees.
use Rattle.std.proofs.Common.{◌≡◌, ℕ, List, [], ◌∷◌, ◌++◌, Some, None, refl, ap, ◌∙◌}
use Rattle.std.specs.Option.{option_map}
use Rattle.std.specs.List.{AllByRecursion, flat_map}
use Rattle.std.specs.FinMap.{FinMap, insert, remove, get, entries, from_entries}
use Rattle.xod_base.specs.declared.value.EntityId.{EntityId}
use Rattle.xod_base.specs.declared.value.Value.{Value}
use Rattle.xod_base.specs.Rows.{Cell, LinkKey, id_cmp, cell_cmp, link_cmp, number_of}
use Rattle.xod_base.specs.Values.{bytes_cmp, key_of}
use Rattle.xod_carry.specs.Carry.{added, taken, carry}
use Rattle.xod_carry.specs.Index.{index, all_put, all_taken}
use Rattle.xod_carry.proofs.CallerLemmas.{bytes_total, bytes_same, each_too, each-remove, carry-insert, carry-remove, carried-agree, index-new, index-remove, index-change}
use Rattle.xod_tables.specs.Keys.{IsShort, entity_key, property_key, index_key, link_key, back_key, cell_key, join_key, join_back_key, entries_at, index_entries, stored}
use Rattle.xod_tables.proofs.CallerLemmas.{id_total, id_same, cell_total, cell_same, link_total, link_same, id_own, HasKey, HaveKeys, key_is, gives_is, cell_own, cell_alone, HasLinkKey, HaveLinkKeys, out_is, back_is, out_own, back_own}

-- what stands at a key without a value
abbrev pub nothing : Unit {0} → List ℕ
nothing _ = []

-- ---- entities
pub entity_put : (ids : FinMap id_cmp (Unit {0})) → AllByRecursion (λ e. IsShort e.0) (entries ids) → (id : EntityId) → IsShort id
    → carry (λ x. Some (entity_key x)) nothing bytes_cmp (insert ids id tt) ≡ insert (carry (λ x. Some (entity_key x)) nothing bytes_cmp ids) (entity_key id) []
entity_put ids all id s = carry-insert id_total id_same bytes_total bytes_same (λ x. Some (entity_key x)) nothing ids id tt (id_own ids all id s)

pub entity_removed : (ids : FinMap id_cmp (Unit {0})) → AllByRecursion (λ e. IsShort e.0) (entries ids) → (id : EntityId) → IsShort id → get ids id ≡ Some tt
    → carry (λ x. Some (entity_key x)) nothing bytes_cmp (remove ids id) ≡ remove (carry (λ x. Some (entity_key x)) nothing bytes_cmp ids) (entity_key id)
entity_removed ids all id s is = carry-remove id_total id_same bytes_total bytes_same (λ x. Some (entity_key x)) nothing ids id tt is (id_own ids all id s)

-- ---- properties

module _ (props : List (List ℕ)) (values : FinMap cell_cmp Value) (all : HaveKeys props values) (cell : Cell) (k : HasKey props cell) where
  abbrev n : ℕ
  n = k.name.number

  others : HaveKeys props (remove values cell)
  others = each-remove cell_total cell_same (λ e. HasKey props e.0) values cell all

  pub property_put : (value : Value) → carry (cell_key props) stored bytes_cmp (insert values cell value) ≡ insert (carry (cell_key props) stored bytes_cmp values) (property_key cell.0 n) (stored value)
  property_put value = carry-insert cell_total cell_same bytes_total bytes_same (cell_key props) stored values cell value (cell_own props values all cell k)
      ∙ ap (λ key. added key (stored value) (carry (cell_key props) stored bytes_cmp values)) (key_is props cell k)

  pub property_removed : (old : Value) → get values cell ≡ Some old → carry (cell_key props) stored bytes_cmp (remove values cell) ≡ remove (carry (cell_key props) stored bytes_cmp values) (property_key cell.0 n)
  property_removed old is = carry-remove cell_total cell_same bytes_total bytes_same (cell_key props) stored values cell old is (cell_own props values all cell k)
      ∙ ap (λ key. taken key (carry (cell_key props) stored bytes_cmp values)) (key_is props cell k)

  -- ---- the index
  pub indexed_new : (value : Value) → get values cell ≡ None → index (index_entries props) bytes_cmp (insert values cell value) ≡ insert (index (index_entries props) bytes_cmp values) (index_key cell.0 n (key_of value)) []
  indexed_new value none = index-new cell_total cell_same bytes_total bytes_same (index_entries props) values cell value none (cell_alone props cell k value values all)
      ∙ ap (λ l. all_put l (index (index_entries props) bytes_cmp values)) (gives_is props cell k value)

  pub indexed_removed : (old : Value) → get values cell ≡ Some old → index (index_entries props) bytes_cmp (remove values cell) ≡ remove (index (index_entries props) bytes_cmp values) (index_key cell.0 n (key_of old))
  indexed_removed old is = index-remove cell_total cell_same bytes_total bytes_same (index_entries props) values cell old is (cell_alone props cell k old (remove values cell) others)
      ∙ ap (λ l. all_taken l (index (index_entries props) bytes_cmp values)) (gives_is props cell k old)

  pub indexed_changed : (old new : Value) → get values cell ≡ Some old
      → index (index_entries props) bytes_cmp (insert values cell new) ≡ insert (remove (index (index_entries props) bytes_cmp values) (index_key cell.0 n (key_of old))) (index_key cell.0 n (key_of new)) []
  indexed_changed old new is = index-change cell_total cell_same bytes_total bytes_same (index_entries props) values cell old new is (cell_alone props cell k old (remove values cell) others) (cell_alone props cell k new (remove values cell) others)
      ∙ (λ i. all_put (gives_is props cell k new i) (all_taken (gives_is props cell k old i) (index (index_entries props) bytes_cmp values)))

-- lists of names in which the names of all properties have one number give one tree
pub properties_agree : (props more : List (List ℕ)) (values : FinMap cell_cmp Value) → AllByRecursion (λ e. number_of more e.0.1 ≡ number_of props e.0.1) (entries values) → carry (cell_key more) stored bytes_cmp values ≡ carry (cell_key props) stored bytes_cmp values
properties_agree props more values all = ap from_entries (carried-agree (cell_key more) (cell_key props) stored (entries values) (each_too (λ e h. ap (option_map (property_key e.0.0)) h) (entries values) all))

flat_agree : (props more : List (List ℕ)) (es : List (Cell × Value)) → AllByRecursion (λ e. number_of more e.0.1 ≡ number_of props e.0.1) es → flat_map (index_entries more) es ≡ flat_map (index_entries props) es
flat_agree props more [] all = refl
flat_agree props more (e ∷ es) all = λ i. entries_at e.0.0 e.1 (all.0 i) ++ flat_agree props more es all.1 i

pub index_agree : (props more : List (List ℕ)) (values : FinMap cell_cmp Value) → AllByRecursion (λ e. number_of more e.0.1 ≡ number_of props e.0.1) (entries values) → index (index_entries more) bytes_cmp values ≡ index (index_entries props) bytes_cmp values
index_agree props more values all = ap from_entries (flat_agree props more (entries values) all)

-- ---- links

module _ (links : List (List ℕ)) (joined : FinMap link_cmp (Unit {0})) (all : HaveLinkKeys links joined) (link : LinkKey) (k : HasLinkKey links link) where
  abbrev m : ℕ
  m = k.name.number

  pub link_put : carry (join_key links) nothing bytes_cmp (insert joined link tt) ≡ insert (carry (join_key links) nothing bytes_cmp joined) (link_key link.0 m link.1.1) []
  link_put = carry-insert link_total link_same bytes_total bytes_same (join_key links) nothing joined link tt (out_own links joined all link k) ∙ ap (λ key. added key [] (carry (join_key links) nothing bytes_cmp joined)) (out_is links link k)

  pub back_put : carry (join_back_key links) nothing bytes_cmp (insert joined link tt) ≡ insert (carry (join_back_key links) nothing bytes_cmp joined) (back_key link.0 m link.1.1) []
  back_put = carry-insert link_total link_same bytes_total bytes_same (join_back_key links) nothing joined link tt (back_own links joined all link k) ∙ ap (λ key. added key [] (carry (join_back_key links) nothing bytes_cmp joined)) (back_is links link k)

  pub link_removed : get joined link ≡ Some tt → carry (join_key links) nothing bytes_cmp (remove joined link) ≡ remove (carry (join_key links) nothing bytes_cmp joined) (link_key link.0 m link.1.1)
  link_removed is = carry-remove link_total link_same bytes_total bytes_same (join_key links) nothing joined link tt is (out_own links joined all link k) ∙ ap (λ key. taken key (carry (join_key links) nothing bytes_cmp joined)) (out_is links link k)

  pub back_removed : get joined link ≡ Some tt → carry (join_back_key links) nothing bytes_cmp (remove joined link) ≡ remove (carry (join_back_key links) nothing bytes_cmp joined) (back_key link.0 m link.1.1)
  back_removed is = carry-remove link_total link_same bytes_total bytes_same (join_back_key links) nothing joined link tt is (back_own links joined all link k) ∙ ap (λ key. taken key (carry (join_back_key links) nothing bytes_cmp joined)) (back_is links link k)

module _ (links more : List (List ℕ)) (joined : FinMap link_cmp (Unit {0})) (all : AllByRecursion (λ e. number_of more e.0.1.0 ≡ number_of links e.0.1.0) (entries joined)) where
  pub links_agree : carry (join_key more) nothing bytes_cmp joined ≡ carry (join_key links) nothing bytes_cmp joined
  links_agree = ap from_entries (carried-agree (join_key more) (join_key links) nothing (entries joined) (each_too (λ e h. ap (option_map (λ number. link_key e.0.0 number e.0.1.1)) h) (entries joined) all))

  pub back_agree : carry (join_back_key more) nothing bytes_cmp joined ≡ carry (join_back_key links) nothing bytes_cmp joined
  back_agree = ap from_entries (carried-agree (join_back_key more) (join_back_key links) nothing (entries joined) (each_too (λ e h. ap (option_map (λ number. back_key e.0.0 number e.0.1.1)) h) (entries joined) all))
