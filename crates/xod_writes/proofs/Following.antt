-- The tables with the writes of a change are the tables of the rows with the change.
use Rattle.std.proofs.Common.{◌≡◌, ℕ, ◌+◌, ◌≤◌, Bool, true, false, cond, List, [], ◌∷◌, ◌++◌, length, Option, Some, None, refl, sym, ap, subst, ◌∙◌, arith, true≢false}
use Rattle.std.specs.Prelude.{◌&&◌, ◌||◌, not, is_some, nat_lt, nat_le, unwrap_or}
use Rattle.std.specs.List.{list_all}
use Rattle.std.specs.FinMap.{insert, remove, get, entries}
use Rattle.xod_base.specs.declared.limits.TheConstants.{MOST_NAMES, LONGEST_TEXT}
use Rattle.xod_base.specs.declared.value.EntityId.{EntityId}
use Rattle.xod_base.specs.declared.value.Value.{Value}
use Rattle.xod_base.specs.declared.answer.NameKind.TheVariants.{Kinds, Props, Links}
use Rattle.xod_base.specs.Rows.{RowsValue, Cell, number_of, has_name_length}
use Rattle.xod_base.specs.Views.{Trees}
use Rattle.xod_carry.proofs.CallerLemmas.{each_too, each_get}
use Rattle.xod_journal.specs.declared.change.RowChange.{RowChange}
use Rattle.xod_journal.specs.declared.change.RowChange.TheVariants.{AddEntity, RemoveEntity, Prop, LinkAdd, LinkDel}
use Rattle.xod_journal.specs.Changes.{fits, is_change, applied, all_applied, all_fit, has_room, with_next, same_option, option_text_length, is_in_use}
use Rattle.xod_journal.specs.Laws.{SameIsEqual}
use Rattle.xod_journal.proofs.NameLemmas.{kind_number-le}
use Rattle.xod_journal.proofs.SoundLemmas.{new_entity, change_keeps_sound}
use Rattle.xod_tables.specs.Keys.{IsShort}
use Rattle.xod_tables.specs.Tables.{AreTables}
use Rattle.xod_tables.specs.Writes.{after_writes, name_writes, id_writes, value_writes, link_writes, link_removals}
use Rattle.xod_tables.proofs.CallerLemmas.{cell_total, cell_same, link_total, link_same, Facts, facts, short, is_some_at, there_short, CellFits, cells_fit, LinkFits, links_fit, Listed, same_some, ids_short, HasKey, HaveKeys, cell_keys, link_keys}
use Rattle.xod_writes.specs.Changes.{number_for, writes_of, all_writes}
use Rattle.xod_writes.specs.Laws.{TablesFollowChanges, TablesFollowAllChanges}
use Rattle.xod_writes.proofs.Grown.{grown_at, small_in, listed_kept, listed_now, same_number}
use Rattle.xod_writes.proofs.Holding.{Hold, held, tables, after-append, hold_type, hold_prop, hold_link_name, hold_entity, hold_no_entity, hold_new_value, hold_changed_value, hold_no_value, hold_link, hold_no_link}

six : (a b c d e f : Bool) → (a && b && c && d && e && f) ≡ true → (a ≡ true) × (b ≡ true) × (c ≡ true) × (d ≡ true) × (e ≡ true) × (f ≡ true)
six true true true true true true h = (refl, refl, refl, refl, refl, refl)
six true true true true true false h = absurd (true≢false (sym h))
six false b c d e f h = absurd (true≢false (sym h))
six true false c d e f h = absurd (true≢false (sym h))
six true true false d e f h = absurd (true≢false (sym h))
six true true true false e f h = absurd (true≢false (sym h))
six true true true true false f h = absurd (true≢false (sym h))

-- ---- a new entity
module _ (trees : Trees) (rows : RowsValue) (f : Facts rows) (h : Hold trees rows) where
  nexts_few : length rows.nexts ≤ 4096
  nexts_few = let few = short rows.types f.types in let many = f.as_many in omega (arith, few, many)

  entity_at : (id : EntityId) (kind : List ℕ) → IsShort id → id.kind ≤ length rows.nexts → (o : Option ℕ) → number_of rows.types kind ≡ o
      → Hold (after_writes trees (cond (is_some o) [] (name_writes Kinds (length rows.types) kind) ++ id_writes id))
      (record rows { types = cond (is_some o) rows.types (rows.types ++ kind ∷ []); nexts = with_next rows.nexts id.kind (id.local + 1); ids = insert rows.ids id tt })
  entity_at id kind s le (Some n) is = let few = nexts_few in hold_entity trees rows h id (ids_short rows f) s le (omega (arith, few))
  entity_at id kind s le None is = let few = nexts_few in
      hold_entity (after_writes trees (name_writes Kinds (length rows.types) kind)) (record rows { types = rows.types ++ kind ∷ [] })
      (hold_type trees rows h kind (short rows.types f.types) is) id (ids_short rows f) s le (omega (arith, few))

  pub entity_follows : (id : EntityId) (kind : List ℕ) → fits rows (AddEntity id kind) ≡ true → Hold (after_writes trees (writes_of rows (AddEntity id kind))) (applied rows (AddEntity id kind))
  entity_follows id kind fit =
      let n = new_entity rows id kind fit in
      let kind_is = n.kind_is in
      let local = n.local_fits in
      let many = f.as_many in
      let le = kind_number-le rows.types kind in
      let few = nexts_few in
      let within : id.kind ≤ length rows.nexts = omega (arith, kind_is, le, many) in
      entity_at id kind (record { kind = omega (arith, within, few); local = omega (arith, local) }) within (number_of rows.types kind) refl

  pub removal_follows : (id : EntityId) → fits rows (RemoveEntity id) ≡ true → Hold (after_writes trees (writes_of rows (RemoveEntity id))) (applied rows (RemoveEntity id))
  removal_follows id fit =
      let there = (six true true true true (is_some (get rows.ids id)) (not (is_in_use rows id)) fit).4 in
      hold_no_entity trees rows h id (ids_short rows f) (there_short rows f id there) (is_some_at (get rows.ids id) there).1

-- ---- a property
module _ (trees : Trees) (rows : RowsValue) (h : Hold trees rows) (all : HaveKeys rows.props rows.values) (cell : Cell) (k : HasKey rows.props cell) (n : ℕ) (same : n ≡ k.name.number) where
  set_value : (old : Option Value) (new : Value) → get rows.values cell ≡ old → Hold (after_writes trees (value_writes cell.0 n old (Some new))) (record rows { values = insert rows.values cell new })
  set_value None new is = subst (λ i. Hold (after_writes trees (value_writes cell.0 i None (Some new))) (record rows { values = insert rows.values cell new })) (sym same) (hold_new_value trees rows h all cell k new is)
  set_value (Some old) new is = subst (λ i. Hold (after_writes trees (value_writes cell.0 i (Some old) (Some new))) (record rows { values = insert rows.values cell new })) (sym same) (hold_changed_value trees rows h all cell k old new is)

  no_value : (old : Value) → get rows.values cell ≡ Some old → Hold (after_writes trees (value_writes cell.0 n (Some old) None)) (record rows { values = remove rows.values cell })
  no_value old is = subst (λ i. Hold (after_writes trees (value_writes cell.0 i (Some old) None)) (record rows { values = remove rows.values cell })) (sym same) (hold_no_value trees rows h all cell k old is)

-- the number of a listed name
number_listed : (names : List (List ℕ)) (name : List ℕ) (l : Listed names name) → number_for names name ≡ l.number
number_listed names name l = ap (λ o. unwrap_or o (length names)) l.is

module _ (trees : Trees) (rows : RowsValue) (f : Facts rows) (h : Hold trees rows) where
  value_at : (id : EntityId) (name : List ℕ) (old : Option Value) (new : Value) → IsShort id → get rows.values (id, name) ≡ old → (o : Option ℕ) → number_of rows.props name ≡ o → (is_some o || nat_lt (length rows.props) MOST_NAMES) ≡ true
      → Hold (after_writes trees (cond (is_some o) [] (name_writes Props (length rows.props) name) ++ value_writes id (unwrap_or o (length rows.props)) old (Some new)))
      (record rows { props = cond (is_some o) rows.props (rows.props ++ name ∷ []); values = insert rows.values (id, name) new })
  value_at id name old new s is (Some n) e room =
      let l = small_in rows.props (short rows.props f.props) name n e in
      set_value trees rows h (cell_keys rows f) (id, name) (record { id = s; name = l }) n (same_some n l.number (sym e ∙ l.is)) old new is
  value_at id name old new s is None e room =
      let g = grown_at rows.props name (short rows.props f.props) None e room in
      let l = listed_now g in
      let more = rows.props ++ name ∷ [] in
      set_value (after_writes trees (name_writes Props (length rows.props) name)) (record rows { props = more })
      (hold_prop trees rows h name (short rows.props f.props) e (each_too (λ x k. same_number g x.0.1 k.name) (entries rows.values) (cell_keys rows f)))
      (each_too (λ x k. record { id = k.id; name = listed_kept g x.0.1 k.name }) (entries rows.values) (cell_keys rows f))
      (id, name) (record { id = s; name = l }) (length rows.props) (same_some (length rows.props) l.number (sym g.is ∙ l.is)) old new is

  value_follows : SameIsEqual → (id : EntityId) (name : List ℕ) (old new : Option Value) → fits rows (Prop id name old new) ≡ true → Hold (after_writes trees (writes_of rows (Prop id name old new))) (applied rows (Prop id name old new))
  value_follows equal id name None None fit =
      let t = six (has_name_length name) (has_room rows.props name) (is_some (get rows.ids id)) (same_option None (get rows.values (id, name))) (not (same_option None None)) (nat_le (option_text_length None) LONGEST_TEXT) fit in
      absurd (true≢false (sym t.4))
  value_follows equal id name (Some old) None fit =
      let t = six (has_name_length name) (has_room rows.props name) (is_some (get rows.ids id)) (same_option (Some old) (get rows.values (id, name))) (not (same_option (Some old) None)) (nat_le (option_text_length None) LONGEST_TEXT) fit in
      let is : get rows.values (id, name) ≡ Some old = sym ((equal.1 (Some old) (get rows.values (id, name))).0 t.3) in
      let c : CellFits rows ((id, name), old) = each_get cell_total cell_same (CellFits rows) rows.values (id, name) old (cells_fit rows f) is in
      no_value trees rows h (cell_keys rows f) (id, name) (record { id = c.id; name = c.name }) (number_for rows.props name) (number_listed rows.props name c.name) old is
  value_follows equal id name old (Some new) fit =
      let t = six (has_name_length name) (has_room rows.props name) (is_some (get rows.ids id)) (same_option old (get rows.values (id, name))) (not (same_option old (Some new))) (nat_le (option_text_length (Some new)) LONGEST_TEXT) fit in
      value_at id name old new (there_short rows f id t.2) (sym ((equal.1 old (get rows.values (id, name))).0 t.3)) (number_of rows.props name) refl t.1

  -- ---- a link
  link_at : (source target : EntityId) (name : List ℕ) → IsShort source → IsShort target → (o : Option ℕ) → number_of rows.links name ≡ o → (is_some o || nat_lt (length rows.links) MOST_NAMES) ≡ true
      → Hold (after_writes trees (cond (is_some o) [] (name_writes Links (length rows.links) name) ++ link_writes source (unwrap_or o (length rows.links)) target))
      (record rows { links = cond (is_some o) rows.links (rows.links ++ name ∷ []); joined = insert rows.joined (source, (name, target)) tt })
  link_at source target name s t (Some n) e room =
      let l = small_in rows.links (short rows.links f.links) name n e in
      subst (λ i. Hold (after_writes trees (link_writes source i target)) (record rows { joined = insert rows.joined (source, (name, target)) tt })) (same_some l.number n (sym l.is ∙ e))
      (hold_link trees rows h (link_keys rows f) (source, (name, target)) (record { source = s; name = l; target = t }))
  link_at source target name s t None e room =
      let g = grown_at rows.links name (short rows.links f.links) None e room in
      let l = listed_now g in
      let more = rows.links ++ name ∷ [] in
      let named = after_writes trees (name_writes Links (length rows.links) name) in
      subst (λ i. Hold (after_writes named (link_writes source i target)) (record rows { links = more; joined = insert rows.joined (source, (name, target)) tt })) (same_some l.number (length rows.links) (sym l.is ∙ g.is))
      (hold_link named (record rows { links = more })
      (hold_link_name trees rows h name (short rows.links f.links) e (each_too (λ x k. same_number g x.0.1.0 k.name) (entries rows.joined) (link_keys rows f)))
      (each_too (λ x k. record { source = k.source; name = listed_kept g x.0.1.0 k.name; target = k.target }) (entries rows.joined) (link_keys rows f))
      (source, (name, target)) (record { source = s; name = l; target = t }))

  link_follows : (source : EntityId) (name : List ℕ) (target : EntityId) → fits rows (LinkAdd source name target) ≡ true → Hold (after_writes trees (writes_of rows (LinkAdd source name target))) (applied rows (LinkAdd source name target))
  link_follows source name target fit =
      let t = six true (has_name_length name) (has_room rows.links name) (is_some (get rows.ids source)) (is_some (get rows.ids target)) (not (is_some (get rows.joined (source, (name, target))))) fit in
      link_at source target name (there_short rows f source t.3) (there_short rows f target t.4) (number_of rows.links name) refl t.2

  no_link_follows : (source : EntityId) (name : List ℕ) (target : EntityId) → fits rows (LinkDel source name target) ≡ true → Hold (after_writes trees (writes_of rows (LinkDel source name target))) (applied rows (LinkDel source name target))
  no_link_follows source name target fit =
      let there = (six true true true true (has_name_length name) (is_some (get rows.joined (source, (name, target)))) fit).5 in
      let found = is_some_at (get rows.joined (source, (name, target))) there in
      let c : LinkFits rows (source, (name, target)) = each_get link_total link_same (λ e. LinkFits rows e.0) rows.joined (source, (name, target)) found.0 (links_fit rows f) found.1 in
      subst (λ i. Hold (after_writes trees (link_removals source i target)) (record rows { joined = remove rows.joined (source, (name, target)) })) (sym (number_listed rows.links name c.name))
      (hold_no_link trees rows h (link_keys rows f) (source, (name, target)) (record { source = c.source; name = c.name; target = c.target }) found.1)

  change_follows : SameIsEqual → (change : RowChange) → fits rows change ≡ true → Hold (after_writes trees (writes_of rows change)) (applied rows change)
  change_follows equal (AddEntity id kind) fit = entity_follows trees rows f h id kind fit
  change_follows equal (RemoveEntity id) fit = removal_follows trees rows f h id fit
  change_follows equal (Prop id name old new) fit = value_follows equal id name old new fit
  change_follows equal (LinkAdd source name target) fit = link_follows source name target fit
  change_follows equal (LinkDel source name target) fit = no_link_follows source name target fit

pub follow : SameIsEqual → TablesFollowChanges
follow equal trees rows change t is fit =
    tables (after_writes trees (writes_of rows change)) (applied rows change) (change_keeps_sound rows change t.sound is fit)
    (change_follows trees rows (facts rows t.sound) (held trees rows t) equal change fit)

pub follow_all : TablesFollowChanges → TablesFollowAllChanges
follow_all one trees rows [] t is fit = t
follow_all one trees rows (change ∷ more) t is fit =
    let a = (six true true true true (is_change change) (list_all is_change more) is) in
    let b = (six true true true true (fits rows change) (all_fit (applied rows change) more) fit) in
    subst (λ s. AreTables s (all_applied (applied rows change) more)) (sym (after-append trees (writes_of rows change) (all_writes (applied rows change) more)))
    (follow_all one (after_writes trees (writes_of rows change)) (applied rows change) more (one trees rows change t a.4 b.4) a.5 b.5)
