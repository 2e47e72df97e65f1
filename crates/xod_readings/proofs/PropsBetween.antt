-- The entities that the index has between two bounds are those whose values have keys between them.
use Rattle.std.proofs.Common.{◌≡◌, ℕ, zero, suc, ◌+◌, ◌-◌, ◌<◌, ◌^◌, Bool, true, false, cond, not, ◌&&◌, ◌||◌, List, [], ◌∷◌, ◌++◌, map, length, drop, take, Option, Some, None, refl, sym, ap, subst, ◌∙◌, arith, length-append, le-leb, eqb-true, eq-eqb, nat_cmp, Ordering, Less, Equal, Greater, true≢false}
use Rattle.std.specs.Prelude.{is_some, nat_le, ◌==◌}
use Rattle.std.specs.Option.{option_map}
use Rattle.std.specs.List.{AllByRecursion, filter, flat_map, slice_get}
use Rattle.std.specs.Ordering.{is_eq, is_gt, ordering_then}
use Rattle.std.specs.Cmp.{first_so, second_so, tied_itself, Equal-is, ranked}
use Rattle.std.specs.Cmp.Lexicographic.{bytes_decides}
use Rattle.std.specs.FinMap.{entries, get, keys}
use Rattle.xod_base.specs.declared.limits.TheConstants.{LONGEST_TEXT}
use Rattle.xod_base.specs.declared.value.EntityId.{EntityId}
use Rattle.xod_base.specs.declared.value.Value.{Value}
use Rattle.xod_base.specs.Evaluation.{has_value, ids_with_number, passes, rising}
use Rattle.xod_base.specs.Rows.{RowsValue, Cell, id_cmp, number_of, is_cell, is_listed, text_length}
use Rattle.xod_base.specs.Values.{bytes_cmp, has_key_within, is_value, is_within, key_of, same_bytes}
use Rattle.xod_base.specs.Views.{Entry}
use Rattle.xod_carry.proofs.CallerLemmas.{bytes_total, bytes_same, numbers_total, numbers_same, each_both, each_by_get, each_get, each_too}
use Rattle.xod_dup.specs.Joining.{ShowTheirEnds}
use Rattle.xod_dup.specs.Laws.{JoinedKeysRiseAsPairs}
use Rattle.xod_tables.specs.Keys.{IsShort, u32, index_entries, index_key}
use Rattle.xod_tables.specs.LookUps.{TreesAnswer, option_has_key}
use Rattle.xod_tables.specs.Reading.{of_u32}
use Rattle.xod_tables.specs.Tables.{index_tree}
use Rattle.xod_tables.proofs.CallerLemmas.{Facts, CellFits, cells_fit, id_total, id_same, cell_total, cell_same, gives_is, ids_short, is_some_at, name_of_number, u32_cmp, u32_back, same_some}
use Rattle.xod_keys.specs.Pieces.{entry_read}
use Rattle.xod_keys.specs.Readings.{LAST, all_read, ids_between, read_behind}
use Rattle.xod_range.specs.Ranges.{in_range}
use Rattle.xod_readings.specs.Laws.{IsBound, IsHighBound}
use Rattle.xod_readings.proofs.Bounds.{within_number}
use Rattle.xod_readings.proofs.Names.{small_number}
use Rattle.xod_readings.proofs.Ranging.{In, Rises, each_filter, each_flat_map, each_map, each_stands, in_each, in_entries, in_filter, in_map, known_each, nat_not_above, rises_filter, rises_keys}
use Rattle.xod_readings.proofs.Props.{cell_there}
use Rattle.xod_readings.proofs.PropsRising.{rising_is}

-- ---- a key with a number behind it between bounds

-- a bound that no key is a proper front of is as high above a key with more behind it as above the key
above_low : (low key more : List ℕ) → ((rest : List ℕ) → low ≡ key ++ rest → rest ≡ []) → is_gt (bytes_cmp low (key ++ more)) ≡ is_gt (bytes_cmp low key)
above_low [] [] [] h = refl
above_low [] [] (m ∷ more) h = refl
above_low [] (k ∷ key) more h = refl
above_low (b ∷ low) [] more h = absurd (nothing_there (h (b ∷ low) refl))
  where
    nothing_there : b ∷ low ≡ [] → ⊥
    nothing_there e = let zero_is : suc (length low) ≡ 0 = ap length e in absurd (omega (arith, zero_is))
above_low (b ∷ low) (k ∷ key) more h = at (nat_cmp b k) refl (λ same. above_low low key more (λ rest is. h rest (λ i. same i ∷ is i)))
  where
    at : (r : Ordering) → r ≡ nat_cmp b k → (b ≡ k → is_gt (bytes_cmp low (key ++ more)) ≡ is_gt (bytes_cmp low key))
        → is_gt (ordering_then r (bytes_cmp low (key ++ more))) ≡ is_gt (ordering_then r (bytes_cmp low key))
    at Less e later = refl
    at Equal e later = later (ranked b k Equal e)
    at Greater e later = refl

then_low : (r s : Ordering) → is_gt s ≡ false → is_gt (ordering_then r s) ≡ is_gt r
then_low Less s h = refl
then_low Equal s h = h
then_low Greater s h = refl

module _ (joins : JoinedKeysRiseAsPairs) (low high : List ℕ) (is_low : IsBound low) (is_high : IsHighBound high) where
  -- the number behind a key decides nothing
  key_alone : (value : Value) → is_value value ≡ true → (number : ℕ) → number < 2 ^ 32
      → is_within low (high ++ u32 LAST) (key_of value ++ u32 number) ≡ is_within low high (key_of value)
  key_alone value h number small =
      let last : is_gt (bytes_cmp (u32 number) (u32 LAST)) ≡ false = ap is_gt (u32_cmp number LAST small (omega arith)) ∙ nat_not_above number LAST (omega arith) in
      let ends : ShowTheirEnds (key_of value) high = (λ more e. is_high.is_bound value more h (sym e), λ more e. is_high.fronts_none value more h (sym e)) in
      let up = ap is_gt (joins (key_of value) high (u32 number) (u32 LAST) ends)
      ∙ then_low (bytes_cmp (key_of value) high) (bytes_cmp (u32 number) (u32 LAST)) last in
      let down = above_low low (key_of value) (u32 number) (λ rest e. is_low value rest h e) in
      λ i. not (down i) && not (up i)

-- ---- what stands in the index
abbrev id_of : Entry → EntityId
id_of entry = record { kind = of_u32 (take 4 entry.0); local = of_u32 (drop (length entry.0 - 4) entry.0) }

past : (a b : List ℕ) (k : ℕ) → k ≡ length a → drop k (a ++ b) ≡ b
past [] b zero e = refl
past [] b (suc k) e = absurd (omega arith)
past (x ∷ a) b zero e = absurd (omega arith)
past (x ∷ a) b (suc k) e = past a b k (omega arith)

last_number : (a : List ℕ) (n : ℕ) → n < 2 ^ 32 → of_u32 (drop (length (a ++ u32 n) - 4) (a ++ u32 n)) ≡ n
last_number a n h =
    let long : length (a ++ u32 n) ≡ length a + 4 = length-append a (u32 n) in
    ap of_u32 (past a (u32 n) (length (a ++ u32 n) - 4) (omega (arith, long))) ∙ u32_back n h

index_id : (id : EntityId) (prop : ℕ) (key there : List ℕ) → IsShort id → id_of (index_key id prop key, there) ≡ id
index_id id prop key there s = λ i. record { kind = u32_back id.kind s.kind i; local = last_number (u32 id.kind ++ (u32 prop ++ key)) id.local s.local i }

index_long : (id : EntityId) (prop : ℕ) (key : List ℕ) → nat_le 12 (length (index_key id prop key)) ≡ true
index_long id prop key =
    let long : length (key ++ u32 id.local) ≡ length key + 4 = length-append key (u32 id.local) in
    le-leb 12 (length (index_key id prop key)) (omega (arith, long))

all_read_each : {A : Type 0} (read : Entry → Option A) (g : Entry → A) (es : List Entry) → AllByRecursion (λ e. read e ≡ Some (g e)) es
    → all_read read es ≡ Some (map g es)
all_read_each read g [] h = refl
all_read_each read g (e ∷ es) h = λ i. read_behind (h.0 i) (all_read_each read g es h.1 i)

-- an entry of the index stands for a property
record IsIndexed (rows : RowsValue) (entry : Entry) : Type 0 where
  cell : Cell
  value : Value
  stands : get rows.values cell ≡ Some value
  fits : CellFits rows (cell, value)
  is : entry.0 ≡ index_key cell.0 fits.name.number (key_of value)

module _ (rows : RowsValue) (f : Facts rows) where
  given : (e : Cell × Value) → CellFits rows e → get rows.values e.0 ≡ Some e.1 → AllByRecursion (IsIndexed rows) (index_entries rows.props e)
  given e fits is = subst (AllByRecursion (IsIndexed rows)) (sym (gives_is rows.props e.0 (record { id = fits.id; name = fits.name }) e.1))
      (record { cell = e.0; value = e.1; stands = is; fits = fits; is = refl }, tt)

  each_indexed : AllByRecursion (IsIndexed rows) (entries (index_tree rows))
  each_indexed = each_by_get bytes_total bytes_same (IsIndexed rows) (index_tree rows)
      (λ key there is. known_each bytes_total bytes_same (IsIndexed rows) (flat_map (index_entries rows.props) (entries rows.values)) key there
      (each_flat_map (IsIndexed rows) (index_entries rows.props) (entries rows.values) (each_both given (entries rows.values) (cells_fit rows f) (each_stands cell_total cell_same rows.values))) is)

  indexed_read : (e : Entry) → IsIndexed rows e → entry_read e.0 ≡ Some (id_of e)
  indexed_read e h = ap (λ b. cond b (Some (id_of e)) None) (ap (λ k. nat_le 12 (length k)) h.is ∙ index_long h.cell.0 h.fits.name.number (key_of h.value))

  indexed_id : (e : Entry) (h : IsIndexed rows e) → id_of e ≡ h.cell.0
  indexed_id e h = ap (λ k. id_of (k, e.1)) h.is ∙ index_id h.cell.0 h.fits.name.number (key_of h.value) e.1 h.fits.id

  -- the entity of a property is there
  entity_there : (cell : Cell) (value : Value) → get rows.values cell ≡ Some value → is_some (get rows.ids cell.0) ≡ true
  entity_there cell value is =
      let all = each_get cell_total cell_same (λ e. is_cell rows e ≡ true) rows.values cell value f.cells is in
      let entity = is_some (get rows.ids cell.0) in
      let name = is_listed rows.props cell.1 in
      first_so entity name (first_so (entity && name) (is_value value) (first_so (entity && name && is_value value) (nat_le (text_length value) LONGEST_TEXT) all))

passed : (test : Value → Bool) (o : Option Value) → passes test o ≡ true → (value : Value) × (o ≡ Some value) × (test value ≡ true)
passed test None h = absurd (true≢false (sym h))
passed test (Some value) h = (value, refl, h)

or_false : (b : Bool) → (b || false) ≡ b
or_false true = refl
or_false false = refl

module _ (joins : JoinedKeysRiseAsPairs) (rows : RowsValue) (f : Facts rows) (a : TreesAnswer rows) (kind : ℕ) (name : List ℕ) (prop : ℕ) (low high : List ℕ)
    (small_kind : kind < 2 ^ 32) (is_prop : number_of rows.props name ≡ Some prop) (is_low : IsBound low) (is_high : IsHighBound high) where
  small_prop : prop < 2 ^ 32
  small_prop = small_number rows.props f.props name prop is_prop

  abbrev is_between : Entry → Bool
  is_between entry = is_within (u32 kind ++ (u32 prop ++ low)) (u32 kind ++ (u32 prop ++ (high ++ u32 LAST))) entry.0

  abbrev in_index : List Entry
  in_index = in_range (u32 kind ++ (u32 prop ++ low)) (u32 kind ++ (u32 prop ++ (high ++ u32 LAST))) (index_tree rows)

  abbrev is_wanted : EntityId → Bool
  is_wanted = has_value rows name (has_key_within low high)

  abbrev of_kind : EntityId → Bool
  of_kind id = id.kind == kind

  abbrev wanted : List EntityId
  wanted = filter is_wanted (filter of_kind (keys rows.ids))

  -- type and property are the wanted ones, and the value's key lies between the bounds
  entry_between : (id : EntityId) (other : ℕ) (value : Value) (there : List ℕ) → IsShort id → other < 2 ^ 32 → is_value value ≡ true
      → is_between (index_key id other (key_of value), there) ≡ (is_eq (nat_cmp kind id.kind) && (is_eq (nat_cmp prop other) && is_within low high (key_of value)))
  entry_between id other value there s o h =
      within_number kind id.kind (u32 prop ++ low) (u32 prop ++ (high ++ u32 LAST)) (u32 other ++ (key_of value ++ u32 id.local)) small_kind s.kind
      ∙ ap (λ b. is_eq (nat_cmp kind id.kind) && b) (within_number prop other low (high ++ u32 LAST) (key_of value ++ u32 id.local) small_prop o)
      ∙ ap (λ b. is_eq (nat_cmp kind id.kind) && (is_eq (nat_cmp prop other) && b)) (key_alone joins low high is_low is_high value h id.local s.local)

  -- what is read is wanted
  entry_wanted : (e : Entry) → IsIndexed rows e × (is_between e ≡ true) → In (id_of e) wanted
  entry_wanted e p =
      let h = p.0 in
      let id = h.cell.0 in
      let number = h.fits.name.number in
      let key = is_within low high (key_of h.value) in
      let all = sym (entry_between id number h.value e.1 h.fits.id h.fits.name.small h.fits.value) ∙ sym (ap (λ k. is_between (k, e.1)) h.is) ∙ p.1 in
      let rest = second_so (is_eq (nat_cmp kind id.kind)) (is_eq (nat_cmp prop number) && key) all in
      let kind_is : kind ≡ id.kind = numbers_same kind id.kind ((Equal-is (nat_cmp kind id.kind)).0 (first_so (is_eq (nat_cmp kind id.kind)) (is_eq (nat_cmp prop number) && key) all)) in
      let prop_is : prop ≡ number = numbers_same prop number ((Equal-is (nat_cmp prop number)).0 (first_so (is_eq (nat_cmp prop number)) key rest)) in
      let name_is : name ≡ h.cell.1 = same_some name h.cell.1 (sym (name_of_number rows.props name prop is_prop).0 ∙ ap (slice_get rows.props) prop_is ∙ h.fits.name.at) in
      let there = is_some_at (get rows.ids id) (entity_there rows f h.cell h.value h.stands) in
      subst (λ x. In x wanted) (sym (indexed_id rows f e h))
      (in_filter is_wanted (filter of_kind (keys rows.ids)) id
      (in_filter of_kind (keys rows.ids) id (in_map (λ x. x.0) (entries rows.ids) (id, there.0) (in_entries id_total id_same rows.ids id there.0 there.1)) (eq-eqb id.kind kind (sym kind_is)))
      (ap (λ n. passes (has_key_within low high) (get rows.values (id, n))) name_is ∙ ap (passes (has_key_within low high)) h.stands ∙ or_false key ∙ second_so (is_eq (nat_cmp prop number)) key rest))

  -- what is wanted is read
  wanted_read : (id : EntityId) → (IsShort id × (of_kind id ≡ true)) × (is_wanted id ≡ true) → In id (map id_of in_index)
  wanted_read id p =
      let s = p.0.0 in
      let found = passed (has_key_within low high) (get rows.values (id, name)) p.1 in
      let value = found.0 in
      let key = index_key id prop (key_of value) in
      let stands = is_some_at (get (index_tree rows) key)
      (a.indexed id name prop (key_of value) s is_prop ∙ ap (option_has_key (key_of value)) found.1 ∙ or_false (same_bytes (key_of value) (key_of value)) ∙ (bytes_decides (key_of value) (key_of value)).1 refl) in
      let kind_is : id.kind ≡ kind = eqb-true id.kind kind p.0.1 in
      let between : is_between (key, stands.0) ≡ true = entry_between id prop value stands.0 s small_prop (cell_there rows f (id, name) value found.1).value
      ∙ (λ i. is_eq ((ap (nat_cmp kind) kind_is ∙ tied_itself numbers_total kind) i) && (is_eq (tied_itself numbers_total prop i) && (sym (or_false (is_within low high (key_of value))) ∙ found.2) i)) in
      subst (λ x. In x (map id_of in_index)) (index_id id prop (key_of value) stands.0 s)
      (in_map id_of in_index (key, stands.0) (in_filter is_between (entries (index_tree rows)) (key, stands.0) (in_entries bytes_total bytes_same (index_tree rows) key stands.0 stands.1) between))

  each_between : AllByRecursion (λ e. IsIndexed rows e × (is_between e ≡ true)) in_index
  each_between = each_filter (IsIndexed rows) is_between (entries (index_tree rows)) (each_indexed rows f)

  each_wanted : AllByRecursion (λ id. (IsShort id × (of_kind id ≡ true)) × (is_wanted id ≡ true)) wanted
  each_wanted = each_filter (λ id. IsShort id × (of_kind id ≡ true)) is_wanted (filter of_kind (keys rows.ids))
      (each_filter IsShort of_kind (keys rows.ids) (each_map IsShort (λ e. e.0) (entries rows.ids) (ids_short rows f)))

  wanted_rises : Rises id_cmp wanted
  wanted_rises = rises_filter id_cmp is_wanted (filter of_kind (keys rows.ids)) (rises_filter id_cmp of_kind (keys rows.ids) (rises_keys id_cmp rows.ids))

  pub between_are_read : ids_between kind prop low high (index_tree rows) ≡ Some (filter (has_value rows name (has_key_within low high)) (ids_with_number rows (Some kind)))
  between_are_read =
      ap (option_map rising) (all_read_each (λ e. entry_read e.0) id_of in_index (each_too (λ e p. indexed_read rows f e p.0) in_index each_between))
      ∙ ap Some (rising_is (map id_of in_index) wanted wanted_rises
      (λ id i. in_each (λ x. In x wanted) (map id_of in_index) id (each_map (λ x. In x wanted) id_of in_index (each_too entry_wanted in_index each_between)) i)
      (λ id i. wanted_read id (in_each (λ x. (IsShort x × (of_kind x ≡ true)) × (is_wanted x ≡ true)) wanted id each_wanted i)))
