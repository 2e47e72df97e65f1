-- Rows stay sound under a change that fits, and their names stay listed.
use Rattle.std.proofs.Common.{◌≡◌, ◌≢◌, ℕ, suc, ◌+◌, ◌<◌, ◌≤◌, Bool, true, false, cond, List, [], ◌∷◌, map, length, Option, Some, None, refl, sym, ap, subst, ◌∙◌, arith, ltb-true, leb-true, lt-ltb, le-leb, eqb-true, eq-eqb}
use Rattle.std.specs.Prelude.{◌&&◌, ◌||◌, not, is_some, IsTrue, nat_lt, nat_le, ◌==◌}
use Rattle.std.specs.List.{list_all, list_any}
use Rattle.std.specs.Ordering.{eq_by_cmp}
use Rattle.std.specs.FinMap.{FinMap, get, entries, keys, empty, insert, remove, get-insert, get-remove}
use Rattle.std.proofs.lemmas.Bool.{false≢true}
use Rattle.xod_base.specs.declared.value.EntityId.{EntityId}
use Rattle.xod_base.specs.declared.value.Value.{Value}
use Rattle.xod_base.specs.Text.{is_text}
use Rattle.xod_base.specs.Values.{is_value}
use Rattle.xod_base.specs.Rows.{RowsValue, Cell, LinkKey, id_cmp, cell_cmp, link_cmp, same_id, no_rows, is_sound, are_names, is_name, is_drawn, is_cell, is_join, is_listed, has_name_length, next_of, text_length}
use Rattle.xod_base.specs.declared.limits.TheConstants.{MOST_NAMES, MOST_LOCALS, LONGEST_TEXT}
use Rattle.xod_journal.specs.declared.change.RowChange.{RowChange}
use Rattle.xod_journal.specs.declared.change.RowChange.TheVariants.{AddEntity, RemoveEntity, Prop, LinkAdd, LinkDel}
use Rattle.xod_journal.specs.Changes.{fits, is_change, applied, has_room, kind_number, with_next, is_option_value, option_text_length, same_option, is_listed_name, are_all_named, is_in_use, is_at_end}
use Rattle.xod_journal.proofs.KeyLemmas.{id_total, id_same, cell_total, cell_same, link_total, link_same, same_id-itself}
use Rattle.xod_journal.proofs.MapLemmas.{entries-empty}
use Rattle.xod_journal.proofs.ListLemmas.{both, two, all_pushed, all_set, all_too, all_inserted, all_removed}
use Rattle.xod_journal.proofs.GoneLemmas.{equal_of}
use Rattle.xod_journal.proofs.NameLemmas.{are_names-with, listed_is, listed_kept, listed_now, kind_number-le, length-with_next, next_of-with_next, with_next-now}

abbrev pub is_next : ℕ → Bool
is_next next = nat_le next MOST_LOCALS

abbrev pub is_drawn_entry : List ℕ → EntityId × Unit {0} → Bool
is_drawn_entry nexts e = is_drawn nexts e.0

-- what it is that rows are sound
pub record Sound (rows : RowsValue) : Type 0 where
  pub types : are_names rows.types ≡ true
  pub props : are_names rows.props ≡ true
  pub links : are_names rows.links ≡ true
  pub as_many : length rows.nexts ≡ length rows.types
  pub nexts : list_all is_next rows.nexts ≡ true
  pub ids : list_all (is_drawn_entry rows.nexts) (entries rows.ids) ≡ true
  pub values : list_all (is_cell rows) (entries rows.values) ≡ true
  pub joined : list_all (is_join rows) (keys rows.joined) ≡ true

-- a test of the keys of a list of entries
all_keys : {K X : Type 0} (p : K → Bool) (es : List (K × X)) → list_all p (map (λ e. e.0) es) ≡ list_all (λ e. p e.0) es
all_keys p [] = refl
all_keys p (e ∷ es) = ap (λ b. p e.0 && b) (all_keys p es)

six : (a b c d e f : Bool) → (a && b && c && d && e && f) ≡ true → (a ≡ true) × (b ≡ true) × (c ≡ true) × (d ≡ true) × (e ≡ true) × (f ≡ true)
six true true true true true f h = (refl, refl, refl, refl, refl, h)
six false b c d e f h = absurd (false≢true h)
six true false c d e f h = absurd (false≢true h)
six true true false d e f h = absurd (false≢true h)
six true true true false e f h = absurd (false≢true h)
six true true true true false f h = absurd (false≢true h)

neither : (b c : Bool) → (b || c) ≡ false → (b ≡ false) × (c ≡ false)
neither true c h = absurd (false≢true (sym h))
neither false c h = (refl, h)

five : (a b c d e : Bool) → (a && b && c && d && e) ≡ true → (a ≡ true) × (b ≡ true) × (c ≡ true) × (d ≡ true) × (e ≡ true)
five a b c d e h = let t = six true a b c d e h in (t.1, t.2, t.3, t.4, t.5)

four : (a b c d : Bool) → (a && b && c && d) ≡ true → (a ≡ true) × (b ≡ true) × (c ≡ true) × (d ≡ true)
four a b c d h = let t = six true true a b c d h in (t.2, t.3, t.4, t.5)

pub sound_facts : (rows : RowsValue) → is_sound rows ≡ true → Sound rows
sound_facts rows h =
    let joined : Bool = list_all (is_join rows) (keys rows.joined) in
    let values : Bool = list_all (is_cell rows) (entries rows.values) in
    let u = two (are_names rows.types && are_names rows.props && are_names rows.links && (length rows.nexts == length rows.types) && list_all is_next rows.nexts && list_all (is_drawn_entry rows.nexts) (entries rows.ids) && values) joined h in
    let v = two (are_names rows.types && are_names rows.props && are_names rows.links && (length rows.nexts == length rows.types) && list_all is_next rows.nexts && list_all (is_drawn_entry rows.nexts) (entries rows.ids)) values u.0 in
    let t = six (are_names rows.types) (are_names rows.props) (are_names rows.links) (length rows.nexts == length rows.types) (list_all is_next rows.nexts) (list_all (is_drawn_entry rows.nexts) (entries rows.ids)) v.0 in
    record {
      types = t.0;
      props = t.1;
      links = t.2;
      as_many = eqb-true (length rows.nexts) (length rows.types) t.3;
      nexts = t.4;
      ids = t.5;
      values = v.1;
      joined = u.1;
    }

pub sound_from : (rows : RowsValue) → Sound rows → is_sound rows ≡ true
sound_from rows s = λ i. s.types i && s.props i && s.links i && eq-eqb (length rows.nexts) (length rows.types) s.as_many i && s.nexts i && s.ids i && s.values i && s.joined i

pub no_rows-sound : is_sound no_rows ≡ true
no_rows-sound = sound_from no_rows (record {
  types = refl;
  props = refl;
  links = refl;
  as_many = refl;
  nexts = refl;
  ids = ap (list_all (is_drawn_entry [])) (entries-empty id_cmp);
  values = ap (list_all (is_cell no_rows)) (entries-empty cell_cmp);
  joined = ap (λ es. list_all (is_join no_rows) (map (λ e. e.0) es)) (entries-empty link_cmp);
})

-- ---- a new entity
pub record NewEntity (rows : RowsValue) (id : EntityId) (kind : List ℕ) : Type 0 where
  pub name : has_name_length kind ≡ true
  pub room : has_room rows.types kind ≡ true
  pub kind_is : id.kind ≡ kind_number rows.types kind
  pub local_is : id.local ≡ next_of rows.nexts id.kind
  pub local_fits : id.local < MOST_LOCALS

pub new_entity : (rows : RowsValue) (id : EntityId) (kind : List ℕ) → fits rows (AddEntity id kind) ≡ true → NewEntity rows id kind
new_entity rows id kind h =
    let t = five (has_name_length kind) (has_room rows.types kind) (id.kind == kind_number rows.types kind) (id.local == next_of rows.nexts id.kind) (nat_lt id.local MOST_LOCALS) h in
    record {
      name = t.0;
      room = t.1;
      kind_is = eqb-true id.kind (kind_number rows.types kind) t.2;
      local_is = eqb-true id.local (next_of rows.nexts id.kind) t.3;
      local_fits = ltb-true id.local MOST_LOCALS t.4;
    }

drawn_still : (nexts : List ℕ) (kind next : ℕ) (e : EntityId × Unit {0}) → next_of nexts kind ≤ next → is_drawn_entry nexts e ≡ true → is_drawn_entry (with_next nexts kind next) e ≡ true
drawn_still nexts kind next e le h =
    let was : e.0.local < next_of nexts e.0.kind = ltb-true e.0.local (next_of nexts e.0.kind) h in
    let more = next_of-with_next nexts kind next e.0.kind le in
    lt-ltb e.0.local (next_of (with_next nexts kind next) e.0.kind) (omega (arith, was, more))

there_still : (ids : FinMap id_cmp (Unit {0})) (new id : EntityId) → is_some (get ids id) ≡ true → is_some (get (insert ids new tt) id) ≡ true
there_still ids new id h = ap is_some (get-insert id_total ids new tt id) ∙ either (eq_by_cmp id_cmp id new)
  where
    either : (b : Bool) → is_some (cond b (Some (tt {0})) (get ids id)) ≡ true
    either true = refl
    either false = h

cell_of_more : (rows : RowsValue) (id : EntityId) (kind : List ℕ) (e : Cell × Value) → is_cell rows e ≡ true → is_cell (applied rows (AddEntity id kind)) e ≡ true
cell_of_more rows id kind e h =
    let t = four (is_some (get rows.ids e.0.0)) (is_listed rows.props e.0.1) (is_value e.1) (nat_le (text_length e.1) LONGEST_TEXT) h in
    λ i. there_still rows.ids id e.0.0 t.0 i && t.1 i && t.2 i && t.3 i

three : (a b c : Bool) → (a && b && c) ≡ true → (a ≡ true) × (b ≡ true) × (c ≡ true)
three a b c h = let t = six true true true a b c h in (t.3, t.4, t.5)

join_of_more : (rows : RowsValue) (id : EntityId) (kind : List ℕ) (link : LinkKey) → is_join rows link ≡ true → is_join (applied rows (AddEntity id kind)) link ≡ true
join_of_more rows id kind link h =
    let t = three (is_some (get rows.ids link.0)) (is_some (get rows.ids link.1.1)) (is_listed rows.links link.1.0) h in
    λ i. there_still rows.ids id link.0 t.0 i && there_still rows.ids id link.1.1 t.1 i && t.2 i

pub sound_with_entity : (rows : RowsValue) (id : EntityId) (kind : List ℕ) → Sound rows → NewEntity rows id kind → is_text kind ≡ true → Sound (applied rows (AddEntity id kind))
sound_with_entity rows id kind s n text =
    let kind_is = n.kind_is in
    let local_is = n.local_is in
    let local_fits = n.local_fits in
    let as_many = s.as_many in
    let le = kind_number-le rows.types kind in
    let within : id.kind ≤ length rows.nexts = omega (arith, kind_is, le, as_many) in
    let raised : next_of rows.nexts id.kind ≤ id.local + 1 = omega (arith, local_is) in
    let nexts = with_next rows.nexts id.kind (id.local + 1) in
    let small : id.local + 1 ≤ MOST_LOCALS = omega (arith, local_fits) in
    let drawn : id.local < next_of nexts id.kind = let e = with_next-now rows.nexts id.kind (id.local + 1) within in omega (arith, e) in
    record {
      types = are_names-with rows.types kind s.types n.room (both _ _ n.name text);
      props = s.props;
      links = s.links;
      as_many = ap (λ k. length (with_next rows.nexts k (id.local + 1))) kind_is ∙ length-with_next rows.types kind rows.nexts (id.local + 1) as_many;
      nexts = nexts_small rows.nexts id.kind (id.local + 1) s.nexts (le-leb (id.local + 1) MOST_LOCALS small);
      ids = all_inserted id_total id_same (is_drawn_entry nexts) rows.ids id tt (lt-ltb id.local (next_of nexts id.kind) drawn)
          (all_too (is_drawn_entry rows.nexts) (is_drawn_entry nexts) (λ e h. drawn_still rows.nexts id.kind (id.local + 1) e raised h) (entries rows.ids) s.ids);
      values = all_too (is_cell rows) (is_cell (applied rows (AddEntity id kind))) (λ e h. cell_of_more rows id kind e h) (entries rows.values) s.values;
      joined = all_too (is_join rows) (is_join (applied rows (AddEntity id kind))) (join_of_more rows id kind) (keys rows.joined) s.joined;
    }
  where
    nexts_small : (nexts : List ℕ) (kind next : ℕ) → list_all is_next nexts ≡ true → is_next next ≡ true → list_all is_next (with_next nexts kind next) ≡ true
    nexts_small nexts kind next h new =
        elim (nat_lt kind (length nexts)) as (λ b. list_all is_next (cond b (Rattle.std.specs.Prelude.slice_set nexts kind next) (Rattle.std.proofs.Common.◌++◌ nexts (next ∷ []))) ≡ true) [
          | true ↦ all_set is_next nexts kind next h new
          | false ↦ all_pushed is_next nexts next h new
        ]

-- ---- an entity that goes

-- an entity stays where another one goes
still_there : (ids : FinMap id_cmp (Unit {0})) (old id : EntityId) → same_id id old ≡ false → is_some (get ids id) ≡ true → is_some (get (remove ids old) id) ≡ true
still_there ids old id other h = ap is_some (get-remove id_total ids old id) ∙ ap (λ b. is_some (cond b None (get ids id))) (unlike (eq_by_cmp id_cmp id old) tied) ∙ h
  where
    tied : eq_by_cmp id_cmp id old ≢ true
    tied e = false≢true (sym other ∙ ap (λ j. same_id id j) (sym (id_same id old (equal_of (id_cmp id old) e))) ∙ same_id-itself id)

    unlike : (b : Bool) → (b ≢ true) → b ≡ false
    unlike true k = absurd (k refl)
    unlike false k = refl

-- what passes one test, and another one fails for each
all_apart : {A : Type 0} (p q r : A → Bool) → ((x : A) → p x ≡ true → q x ≡ false → r x ≡ true) → (xs : List A) → list_all p xs ≡ true → list_any q xs ≡ false → list_all r xs ≡ true
all_apart p q r more [] h k = refl
all_apart p q r more (x ∷ xs) h k =
    let t = two (p x) (list_all p xs) h in
    let u = neither (q x) (list_any q xs) k in
    both _ _ (more x t.0 u.0) (all_apart p q r more xs t.1 u.1)

-- a test of the keys of a list of entries, of which none passes
any_keys : {K X : Type 0} (p : K → Bool) (es : List (K × X)) → list_any p (map (λ e. e.0) es) ≡ list_any (λ e. p e.0) es
any_keys p [] = refl
any_keys p (e ∷ es) = ap (λ b. p e.0 || b) (any_keys p es)

untrue : (b : Bool) → not b ≡ true → b ≡ false
untrue true h = absurd (false≢true h)
untrue false h = refl

sound_without_entity : (rows : RowsValue) (id : EntityId) → Sound rows → is_in_use rows id ≡ false → Sound (applied rows (RemoveEntity id))
sound_without_entity rows id s free =
    let u = neither (list_any (λ cell. same_id cell.0 id) (keys rows.values)) (list_any (is_at_end id) (keys rows.joined)) free in
    record {
      types = s.types;
      props = s.props;
      links = s.links;
      as_many = s.as_many;
      nexts = s.nexts;
      ids = all_removed id_total id_same (is_drawn_entry rows.nexts) rows.ids id s.ids;
      values = all_apart (is_cell rows) (λ e. same_id e.0.0 id) (is_cell (applied rows (RemoveEntity id))) cell (entries rows.values) s.values
          (sym (any_keys (λ cell. same_id cell.0 id) (entries rows.values)) ∙ u.0);
      joined = all_apart (is_join rows) (is_at_end id) (is_join (applied rows (RemoveEntity id))) join (keys rows.joined) s.joined u.1;
    }
  where
    cell : (e : Cell × Value) → is_cell rows e ≡ true → same_id e.0.0 id ≡ false → is_cell (applied rows (RemoveEntity id)) e ≡ true
    cell e h other =
        let t = four (is_some (get rows.ids e.0.0)) (is_listed rows.props e.0.1) (is_value e.1) (nat_le (text_length e.1) LONGEST_TEXT) h in
        λ i. still_there rows.ids id e.0.0 other t.0 i && t.1 i && t.2 i && t.3 i

    join : (link : LinkKey) → is_join rows link ≡ true → is_at_end id link ≡ false → is_join (applied rows (RemoveEntity id)) link ≡ true
    join link h other =
        let t = three (is_some (get rows.ids link.0)) (is_some (get rows.ids link.1.1)) (is_listed rows.links link.1.0) h in
        let u = neither (same_id link.0 id) (same_id link.1.1 id) other in
        λ i. still_there rows.ids id link.0 u.0 t.0 i && still_there rows.ids id link.1.1 u.1 t.1 i && t.2 i

-- ---- a link

join_of_named : (rows : RowsValue) (source target : EntityId) (name : List ℕ) (link : LinkKey) → is_join rows link ≡ true → is_join (applied rows (LinkAdd source name target)) link ≡ true
join_of_named rows source target name link h =
    let t = three (is_some (get rows.ids link.0)) (is_some (get rows.ids link.1.1)) (is_listed rows.links link.1.0) h in
    λ i. t.0 i && t.1 i && listed_kept rows.links name link.1.0 t.2 i

sound_with_link : (rows : RowsValue) (source target : EntityId) (name : List ℕ) → Sound rows → fits rows (LinkAdd source name target) ≡ true → is_text name ≡ true → Sound (applied rows (LinkAdd source name target))
sound_with_link rows source target name s f text =
    let t = five (has_name_length name) (has_room rows.links name) (is_some (get rows.ids source)) (is_some (get rows.ids target)) (not (is_some (get rows.joined (source, (name, target))))) f in
    let now = applied rows (LinkAdd source name target) in
    record {
      types = s.types;
      props = s.props;
      links = are_names-with rows.links name s.links t.1 (both _ _ t.0 text);
      as_many = s.as_many;
      nexts = s.nexts;
      ids = s.ids;
      values = s.values;
      joined = all_keys (is_join now) (entries now.joined) ∙ all_inserted link_total link_same (λ e. is_join now e.0) rows.joined (source, (name, target)) tt
          (λ i. t.2 i && t.3 i && listed_now rows.links name i)
          (sym (all_keys (is_join now) (entries rows.joined)) ∙ all_too (is_join rows) (is_join now) (join_of_named rows source target name) (keys rows.joined) s.joined);
    }

sound_without_link : (rows : RowsValue) (source target : EntityId) (name : List ℕ) → Sound rows → Sound (applied rows (LinkDel source name target))
sound_without_link rows source target name s = record {
  types = s.types;
  props = s.props;
  links = s.links;
  as_many = s.as_many;
  nexts = s.nexts;
  ids = s.ids;
  values = s.values;
  joined = all_keys (is_join rows) (entries (remove rows.joined (source, (name, target)))) ∙ all_removed link_total link_same (λ e. is_join rows e.0) rows.joined (source, (name, target)) (sym (all_keys (is_join rows) (entries rows.joined)) ∙ s.joined);
}

-- ---- a property
-- what rows need for a property's new value, whatever its old one is
pub record CanTake (rows : RowsValue) (id : EntityId) (name : List ℕ) (new : Option Value) : Type 0 where
  pub named : has_name_length name ≡ true
  pub room : has_room rows.props name ≡ true
  pub there : is_some (get rows.ids id) ≡ true
  pub short : nat_le (option_text_length new) LONGEST_TEXT ≡ true

pub new_value : (rows : RowsValue) (id : EntityId) (name : List ℕ) (old new : Option Value) → fits rows (Prop id name old new) ≡ true → CanTake rows id name new
new_value rows id name old new h =
    let t = six (has_name_length name) (has_room rows.props name) (is_some (get rows.ids id)) (same_option old (get rows.values (id, name))) (not (same_option old new)) (nat_le (option_text_length new) LONGEST_TEXT) h in
    record { named = t.0; room = t.1; there = t.2; short = t.5 }

cell_of_named : (rows : RowsValue) (id : EntityId) (name : List ℕ) (value : Value) (e : Cell × Value) → is_cell rows e ≡ true → is_cell (applied rows (Prop id name None (Some value))) e ≡ true
cell_of_named rows id name value e h =
    let t = four (is_some (get rows.ids e.0.0)) (is_listed rows.props e.0.1) (is_value e.1) (nat_le (text_length e.1) LONGEST_TEXT) h in
    λ i. t.0 i && listed_kept rows.props name e.0.1 t.1 i && t.2 i && t.3 i

pub sound_without_value : (rows : RowsValue) (id : EntityId) (name : List ℕ) (old : Option Value) → Sound rows → Sound (applied rows (Prop id name old None))
sound_without_value rows id name old s = record {
  types = s.types;
  props = s.props;
  links = s.links;
  as_many = s.as_many;
  nexts = s.nexts;
  ids = s.ids;
  joined = s.joined;
  values = all_removed cell_total cell_same (is_cell rows) rows.values (id, name) s.values;
}

pub sound_with_value : (rows : RowsValue) (id : EntityId) (name : List ℕ) (old new : Option Value) → Sound rows → CanTake rows id name new → is_text name ≡ true → is_option_value new ≡ true → Sound (applied rows (Prop id name old new))
sound_with_value rows id name old None s n text value = sound_without_value rows id name old s
sound_with_value rows id name old (Some value) s n text is = record {
  types = s.types;
  props = are_names-with rows.props name s.props n.room (both _ _ n.named text);
  links = s.links;
  joined = s.joined;
  as_many = s.as_many;
  nexts = s.nexts;
  ids = s.ids;
  values = all_inserted cell_total cell_same (is_cell (applied rows (Prop id name None (Some value)))) rows.values (id, name) value
      (λ i. n.there i && listed_now rows.props name i && is i && n.short i)
      (all_too (is_cell rows) (is_cell (applied rows (Prop id name None (Some value)))) (λ e h. cell_of_named rows id name value e h) (entries rows.values) s.values);
}

pub change_keeps_sound : (rows : RowsValue) (change : RowChange) → is_sound rows ≡ true → is_change change ≡ true → fits rows change ≡ true → is_sound (applied rows change) ≡ true
change_keeps_sound rows (AddEntity id kind) s c f =
    sound_from _ (sound_with_entity rows id kind (sound_facts rows s) (new_entity rows id kind f) c)
change_keeps_sound rows (RemoveEntity id) s c f =
    sound_from _ (sound_without_entity rows id (sound_facts rows s) (untrue (is_in_use rows id) (two (is_some (get rows.ids id)) (not (is_in_use rows id)) f).1))
change_keeps_sound rows (Prop id name old new) s c f =
    let t = two (is_text name) (is_option_value new) c in
    sound_from _ (sound_with_value rows id name old new (sound_facts rows s) (new_value rows id name old new f) t.0 t.1)
change_keeps_sound rows (LinkAdd source name target) s c f = sound_from _ (sound_with_link rows source target name (sound_facts rows s) f c)
change_keeps_sound rows (LinkDel source name target) s c f = sound_from _ (sound_without_link rows source target name (sound_facts rows s))

-- ---- names

abbrev named_cell : RowsValue → Cell × Value → Bool
named_cell rows e = is_listed_name rows.props e.0.1

abbrev named_link : RowsValue → LinkKey × Unit {0} → Bool
named_link rows e = is_listed_name rows.links e.0.1.0

-- a listed name of sound rows has 1 to 255 bytes
listed_name : (names : List (List ℕ)) (name : List ℕ) → are_names names ≡ true → is_listed names name ≡ true → is_listed_name names name ≡ true
listed_name names name all listed =
    let t = three (nat_le (length names) MOST_NAMES) (Rattle.xod_base.specs.Rows.are_distinct names) (list_all is_name names) all in
    both _ _ (two (has_name_length name) (is_text name) (listed_is is_name names name listed t.2)).0 listed

pub sound_are_named : (rows : RowsValue) → is_sound rows ≡ true → are_all_named rows ≡ true
sound_are_named rows h =
    let s = sound_facts rows h in
    both _ _
    (all_too (is_cell rows) (named_cell rows) (λ e c. listed_name rows.props e.0.1 s.props (four (is_some (get rows.ids e.0.0)) (is_listed rows.props e.0.1) (is_value e.1) (nat_le (text_length e.1) LONGEST_TEXT) c).1) (entries rows.values) s.values)
    (all_too (λ e. is_join rows e.0) (named_link rows) (λ e c. listed_name rows.links e.0.1.0 s.links (three (is_some (get rows.ids e.0.0)) (is_some (get rows.ids e.0.1.1)) (is_listed rows.links e.0.1.0) c).2) (entries rows.joined) (sym (all_keys (is_join rows) (entries rows.joined)) ∙ s.joined))

kept_name : (names : List (List ℕ)) (new name : List ℕ) → is_listed_name names name ≡ true → is_listed_name (Rattle.xod_journal.specs.Changes.with_name names new) name ≡ true
kept_name names new name h = let t = two (has_name_length name) (is_listed names name) h in both _ _ t.0 (listed_kept names new name t.1)

pub change_keeps_names : (rows : RowsValue) (change : RowChange) → are_all_named rows ≡ true → fits rows change ≡ true → are_all_named (applied rows change) ≡ true
change_keeps_names rows (AddEntity id kind) h f = h
change_keeps_names rows (RemoveEntity id) h f = h
change_keeps_names rows (Prop id name old None) h f =
    let t = two (list_all (named_cell rows) (entries rows.values)) (list_all (named_link rows) (entries rows.joined)) h in
    both _ _ (all_removed cell_total cell_same (named_cell rows) rows.values (id, name) t.0) t.1
change_keeps_names rows (Prop id name old (Some value)) h f =
    let t = two (list_all (named_cell rows) (entries rows.values)) (list_all (named_link rows) (entries rows.joined)) h in
    let now = applied rows (Prop id name old (Some value)) in
    let n = new_value rows id name old (Some value) f in
    both _ _
    (all_inserted cell_total cell_same (named_cell now) rows.values (id, name) value (both _ _ n.named (listed_now rows.props name))
    (all_too (named_cell rows) (named_cell now) (λ e k. kept_name rows.props name e.0.1 k) (entries rows.values) t.0)) t.1
change_keeps_names rows (LinkAdd source name target) h f =
    let t = two (list_all (named_cell rows) (entries rows.values)) (list_all (named_link rows) (entries rows.joined)) h in
    let now = applied rows (LinkAdd source name target) in
    let u = five (has_name_length name) (has_room rows.links name) (is_some (get rows.ids source)) (is_some (get rows.ids target)) (not (is_some (get rows.joined (source, (name, target))))) f in
    both _ _ t.0
    (all_inserted link_total link_same (named_link now) rows.joined (source, (name, target)) tt (both _ _ u.0 (listed_now rows.links name))
    (all_too (named_link rows) (named_link now) (λ e k. kept_name rows.links name e.0.1.0 k) (entries rows.joined) t.1))
change_keeps_names rows (LinkDel source name target) h f =
    let t = two (list_all (named_cell rows) (entries rows.values)) (list_all (named_link rows) (entries rows.joined)) h in
    both _ _ t.0 (all_removed link_total link_same (named_link rows) rows.joined (source, (name, target)) t.1)
