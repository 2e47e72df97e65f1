-- The properties of an entity are read as the rows have them.
use Rattle.std.proofs.Common.{◌≡◌, ℕ, zero, suc, ◌<◌, ◌^◌, Bool, true, false, cond, ◌&&◌, not, List, [], ◌∷◌, map, length, Option, Some, None, refl, sym, ap, subst, ◌∙◌, inl, arith, Less, true≢false}
use Rattle.std.specs.Prelude.{is_some, nat_le}
use Rattle.std.specs.Option.{option_map}
use Rattle.std.specs.List.{AllByRecursion, list_all, slice_get}
use Rattle.std.specs.Ordering.{is_eq}
use Rattle.std.specs.Cmp.{first_so, second_so, tied_itself, Equal-is}
use Rattle.std.specs.Cmp.Lexicographic.{bytes_decides}
use Rattle.std.specs.FinMap.{entries, get}
use Rattle.xod_base.specs.declared.limits.TheConstants.{MOST_NAMES}
use Rattle.xod_base.specs.declared.value.EntityId.{EntityId}
use Rattle.xod_base.specs.declared.value.Value.{Value}
use Rattle.xod_base.specs.Rows.{RowsValue, Cell, id_cmp, are_distinct, are_names, is_listed, is_name, number_of, one_further}
use Rattle.xod_base.specs.Values.{bytes_cmp, is_value, is_within, same_bytes}
use Rattle.xod_base.specs.Views.{Entry}
use Rattle.xod_base.proofs.CallerLemmas.{bytes_cmp-front}
use Rattle.xod_carry.specs.Carry.{carried, numbered}
use Rattle.xod_carry.proofs.CallerLemmas.{bytes_total, bytes_same, each, each_both, each_get, each_too}
use Rattle.xod_tables.specs.Keys.{IsShort, u32, id_bytes, property_key, cell_key, stored}
use Rattle.xod_tables.specs.LookUps.{TreesAnswer}
use Rattle.xod_tables.specs.Reading.{only_written}
use Rattle.xod_tables.specs.Tables.{properties_tree}
use Rattle.xod_tables.proofs.CallerLemmas.{Facts, CellFits, cells_fit, id_total, id_same, cell_total, cell_same, u32_cmp, u32_back, value_back, written, same_some, not_none, short, name_of_number}
use Rattle.xod_keys.specs.Pieces.{value_read}
use Rattle.xod_keys.specs.Readings.{LAST, all_read, numbered_read, read_there, value_at, values_at}
use Rattle.xod_readings.specs.Lists.{numbered_values, with_number}
use Rattle.xod_readings.proofs.Bounds.{any_number, within_id}
use Rattle.xod_readings.proofs.Ranging.{In, IsRange, Rises, all_read_back, each_carried, each_flat_map, each_map, each_numbered, each_stands, in_flat_map, in_map, in_numbered, in_range_is, known_each, number_cmp, rises_flat_map, rises_map, rises_numbered}

-- ---- values
value_reads : (value : Value) → is_value value ≡ true → value_read (stored value) ≡ Some value
value_reads value h =
    (λ i. cond (is_value (value_back value h i)) (only_written (λ v. Some (stored v)) (stored value) (Some (value_back value h i))) None)
    ∙ ap (λ b. cond b (only_written (λ v. Some (stored v)) (stored value) (Some value)) None) h
    ∙ written (λ v. Some (stored v)) (stored value) (Some value) value refl refl

value_there : (o : Option Value) → ((value : Value) → o ≡ Some value → is_value value ≡ true) → read_there value_read (option_map stored o) ≡ Some o
value_there None h = refl
value_there (Some value) h = ap (option_map (λ found. Some found)) (value_reads value (h value refl))

module _ (rows : RowsValue) (f : Facts rows) where
  pub cell_there : (cell : Cell) (value : Value) → get rows.values cell ≡ Some value → CellFits rows (cell, value)
  cell_there cell value is = each_get cell_total cell_same (CellFits rows) rows.values cell value (cells_fit rows f) is

  pub value_is_read : TreesAnswer rows → (id : EntityId) (name : List ℕ) (prop : ℕ) → IsShort id → number_of rows.props name ≡ Some prop
      → value_at id prop (properties_tree rows) ≡ Some (get rows.values (id, name))
  value_is_read a id name prop s is = ap (read_there value_read) (a.properties id name prop s is)
      ∙ value_there (get rows.values (id, name)) (λ value there. (cell_there (id, name) value there).value)

-- ---- the number of a name that stands at a place
number_found : (b : Bool) (o : Option ℕ) (n : ℕ) → b ≡ false → o ≡ Some n → cond b (Some 0) (one_further o) ≡ Some (suc n)
number_found b o n other is = λ i. cond (other i) (Some 0) (one_further (is i))

pub number_at_place : (names : List (List ℕ)) → are_distinct names ≡ true → (n : ℕ) (name : List ℕ) → slice_get names n ≡ Some name → number_of names name ≡ Some n
number_at_place [] h n name is = absurd (not_none name (sym is))
number_at_place (x ∷ xs) h zero name is = ap (λ b. cond b (Some 0) (one_further (number_of xs name))) ((bytes_decides x name).1 (same_some x name is))
number_at_place (x ∷ xs) h (suc n) name is =
    let rest = number_at_place xs (second_so (not (is_listed xs x)) (are_distinct xs) h) n name is in
    number_found (same_bytes x name) (number_of xs name) n (other (same_bytes x name) refl rest) rest
  where
    other : (b : Bool) → same_bytes x name ≡ b → number_of xs name ≡ Some n → b ≡ false
    other false e r = refl
    other true e r = absurd (true≢false (sym (first_so (not (is_listed xs x)) (are_distinct xs) h) ∙ ap (λ o. not (is_some o)) (ap (number_of xs) ((bytes_decides x name).0 e) ∙ r)))

pub distinct : (names : List (List ℕ)) → are_names names ≡ true → are_distinct names ≡ true
distinct names h = second_so (nat_le (length names) MOST_NAMES) (are_distinct names) (first_so (nat_le (length names) MOST_NAMES && are_distinct names) (list_all is_name names) h)

-- ---- all properties of an entity
abbrev property_entry : EntityId → ℕ × Value → Entry
property_entry id property = (property_key id property.0, stored property.1)

-- a property with its number: its name stands there, and the rows have the value
record IsNumbered (rows : RowsValue) (id : EntityId) (property : ℕ × Value) : Type 0 where
  name : List ℕ
  number : number_of rows.props name ≡ Some property.0
  small : property.0 < 2 ^ 32
  is : get rows.values (id, name) ≡ Some property.1

module _ (rows : RowsValue) (id : EntityId) where
  abbrev of_name : ℕ × List ℕ → List (ℕ × Value)
  of_name name = with_number name.0 (get rows.values (id, name.1))

  with_each : (P : ℕ × Value → Type 0) (n : ℕ) (o : Option Value) → ((value : Value) → o ≡ Some value → P (n, value)) → AllByRecursion P (with_number n o)
  with_each P n None h = tt
  with_each P n (Some value) h = (h value refl, tt)

  with_rises : (n : ℕ) (o : Option Value) → Rises number_cmp (with_number n o)
  with_rises n None = tt
  with_rises n (Some value) = (tt, tt)

  in_with : (n : ℕ) (o : Option Value) (value : Value) → o ≡ Some value → In (n, value) (with_number n o)
  in_with n None value e = absurd (not_none value (sym e))
  in_with n (Some v) value e = let same = same_some v value e in inl (λ i. (n, same i))

  values_rise : Rises number_cmp (numbered_values rows id)
  values_rise = rises_flat_map number_cmp number_cmp (λ _. Unit {0}) of_name
      (λ x y p q less. with_each (λ a. AllByRecursion (λ b. number_cmp a b ≡ Less) (of_name y)) x.0 (get rows.values (id, x.1))
      (λ v e. with_each (λ b. number_cmp (x.0, v) b ≡ Less) y.0 (get rows.values (id, y.1)) (λ w g. less)))
      (numbered 0 rows.props) (each (λ _. tt) (numbered 0 rows.props)) (each (λ name. with_rises name.0 (get rows.values (id, name.1))) (numbered 0 rows.props)) (rises_numbered 0 rows.props)

  module _ (f : Facts rows) (a : TreesAnswer rows) (s : IsShort id) where
    each_property : AllByRecursion (IsNumbered rows id) (numbered_values rows id)
    each_property = each_flat_map (IsNumbered rows id) of_name (numbered 0 rows.props)
        (each_numbered (λ name. AllByRecursion (IsNumbered rows id) (of_name name)) rows.props
        (λ j x at. with_each (IsNumbered rows id) j (get rows.values (id, x)) (λ value is.
        let number = number_at_place rows.props (distinct rows.props f.props) j x at in
        let within : j < length rows.props = (name_of_number rows.props x j number).1 in
        let few = short rows.props f.props in
        record { name = x; number = number; small = omega (arith, within, few); is = is })))

    abbrev table : List Entry
    table = map (property_entry id) (numbered_values rows id)

    property_within : (n : ℕ) → n < 2 ^ 32 → is_within (property_key id 0) (property_key id LAST) (property_key id n) ≡ true
    property_within n h = within_id id id (u32 0) (u32 LAST) (u32 n) s s ∙ (λ i. is_eq (tied_itself id_total id i) && any_number n h i)

    abbrev Met : Entry → Type 0
    Met entry = is_within (property_key id 0) (property_key id LAST) entry.0 ≡ true → In entry table

    met_cell : (e : Cell × Value) → CellFits rows e → get rows.values e.0 ≡ Some e.1 → (l : List ℕ) → cell_key rows.props e.0 ≡ Some l → Met (l, stored e.1)
    met_cell e fits is l at w =
        let key : property_key e.0.0 fits.name.number ≡ l = same_some (property_key e.0.0 fits.name.number) l (sym (ap (option_map (property_key e.0.0)) fits.name.is) ∙ at) in
        let own : id ≡ e.0.0 = id_same id e.0.0 ((Equal-is (id_cmp id e.0.0)).0
        (first_so (is_eq (id_cmp id e.0.0)) (is_within (u32 0) (u32 LAST) (u32 fits.name.number))
        (sym (within_id id e.0.0 (u32 0) (u32 LAST) (u32 fits.name.number) s fits.id) ∙ ap (is_within (property_key id 0) (property_key id LAST)) key ∙ w))) in
        subst (λ k. In (k, stored e.1) table) (ap (λ x. property_key x fits.name.number) own ∙ key)
        (in_map (property_entry id) (numbered_values rows id) (fits.name.number, e.1)
        (in_flat_map of_name (numbered 0 rows.props) (fits.name.number, e.0.1) (fits.name.number, e.1) (in_numbered fits.name.number rows.props e.0.1 fits.name.at)
        (in_with fits.name.number (get rows.values (id, e.0.1)) e.1 (ap (λ x. get rows.values (x, e.0.1)) own ∙ is))))

    values_range : IsRange (property_key id 0) (property_key id LAST) (properties_tree rows) table
    values_range = record {
      rises = rises_map number_cmp (λ x y. bytes_cmp x.0 y.0) (IsNumbered rows id) (property_entry id)
          (λ x y p q less. bytes_cmp-front (id_bytes id) (u32 x.0) (u32 y.0) ∙ u32_cmp x.0 y.0 p.small q.small ∙ less)
          (numbered_values rows id) each_property values_rise;
      within = each_map (λ e. is_within (property_key id 0) (property_key id LAST) e.0 ≡ true) (property_entry id) (numbered_values rows id)
          (each_too (λ x p. property_within x.0 p.small) (numbered_values rows id) each_property);
      stand = each_map (λ e. get (properties_tree rows) e.0 ≡ Some e.1) (property_entry id) (numbered_values rows id)
          (each_too (λ x p. a.properties id p.name x.0 s p.number ∙ ap (option_map stored) p.is) (numbered_values rows id) each_property);
      met = λ key value is. known_each bytes_total bytes_same Met (carried (cell_key rows.props) stored (entries rows.values)) key value
          (each_carried (cell_key rows.props) stored Met (entries rows.values) (each_both met_cell (entries rows.values) (cells_fit rows f) (each_stands cell_total cell_same rows.values))) is;
    }

    property_reads : (x : ℕ × Value) → IsNumbered rows id x → numbered_read (property_entry id x) ≡ Some x
    property_reads x p = λ i. option_map (λ found. (u32_back x.0 p.small i, found)) (value_reads x.1 (cell_there rows f (id, p.name) x.1 p.is).value i)

    pub all_are_read : values_at id (properties_tree rows) ≡ Some (numbered_values rows id)
    all_are_read = ap (all_read numbered_read) (in_range_is (property_key id 0) (property_key id LAST) (properties_tree rows) table values_range)
        ∙ all_read_back numbered_read (property_entry id) (numbered_values rows id) (each_too property_reads (numbered_values rows id) each_property)
