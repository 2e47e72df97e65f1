-- The trees of properties and of their index.
use Rattle.std.proofs.Common.{◌≡◌, ◌≢◌, ℕ, zero, suc, ◌<◌, ◌≤◌, ◌^◌, Bool, true, false, cond, ◌&&◌, List, [], ◌∷◌, ◌++◌, drop, length, Option, Some, None, refl, sym, ap, subst, ◌∙◌, true≢false, arith, ltb-true}
use Rattle.std.specs.Prelude.{is_some, nat_le, nat_lt}
use Rattle.std.specs.Cmp.Lexicographic.{bytes_decides}
use Rattle.std.specs.Option.{option_map}
use Rattle.std.specs.List.{AllByRecursion, slice_get, flat_map}
use Rattle.std.specs.FinMap.{FinMap, from_entries, entries, get, len, len-entries}
use Rattle.xod_base.specs.declared.limits.TheConstants.{LONGEST_TEXT}
use Rattle.xod_base.specs.declared.value.EntityId.{EntityId}
use Rattle.xod_base.specs.declared.value.Value.{Value}
use Rattle.xod_base.specs.Rows.{RowsValue, Cell, id_cmp, cell_cmp, are_distinct, text_length}
use Rattle.xod_base.specs.Values.{bytes_cmp, is_value, key_of}
use Rattle.xod_base.specs.Views.{Entry, Tree}
use Rattle.xod_carry.specs.Carry.{carried, carry}
use Rattle.xod_carry.specs.Laws.{AreApart, Returns}
use Rattle.xod_carry.proofs.CallerLemmas.{bytes_total, bytes_same, each_too, entries_apart, same_by_lookups}
use Rattle.xod_tables.specs.Keys.{IsShort, u32, id_bytes, entity_key, property_key, index_key, cell_key, index_entries, stored}
use Rattle.xod_tables.specs.Reading.{of_u32, is_written, only_written, id_at, cell_in, value_in}
use Rattle.xod_tables.specs.Tables.{index_tree}
use Rattle.xod_tables.proofs.CallerLemmas.{Listed, same_some, not_none, u32_back, id_at-bytes, value_back, written, was_written, cell_total, cell_same, index_apart, HasKey, HaveKeys, gives_is}
use Rattle.xod_keys.specs.Pieces.{value_read}
use Rattle.xod_audit.specs.Tests.{holds, prop_in, is_property, is_property_entry}
use Rattle.xod_audit.proofs.General.{len_apart, stand_apart, each_from, each_image, comes_back, len_read}
use Rattle.xod_audit.proofs.Names.{place}
use Rattle.xod_audit.proofs.Entities.{held}

-- ---- small facts

-- bytes that are written are there
pub is_at : (o : Option (List ℕ)) (bytes : List ℕ) → is_written o bytes ≡ true → o ≡ Some bytes
is_at None bytes h = absurd (true≢false (sym h))
is_at (Some own) bytes h = ap Some ((bytes_decides own bytes).0 h)

pub at_is : (o : Option (List ℕ)) (bytes : List ℕ) → o ≡ Some bytes → is_written o bytes ≡ true
at_is o bytes e = ap (λ x. is_written x bytes) e ∙ (bytes_decides bytes bytes).1 refl

pub four_parts : (a b c d : Bool) → (a && b && c && d) ≡ true → (a ≡ true) × (b ≡ true) × (c ≡ true) × (d ≡ true)
four_parts true true true d h = (refl, refl, refl, h)
four_parts false b c d h = absurd (true≢false (sym h))
four_parts true false c d h = absurd (true≢false (sym h))
four_parts true true false d h = absurd (true≢false (sym h))

-- what is read and written is what was read
pub was_read : {K : Type 0} (f : K → Option (List ℕ)) (q : List ℕ) (a k : K) → only_written f q (Some a) ≡ Some k → a ≡ k
was_read f q a k e = at (is_written (f a) q) e
  where
    at : (b : Bool) → cond b (Some a) None ≡ Some k → a ≡ k
    at true e = same_some a k e
    at false e = absurd (not_none k (sym e))

-- there is an item at each place below the length
pub item_at : (xs : List (List ℕ)) (n : ℕ) → n < length xs → (x : List ℕ) × (slice_get xs n ≡ Some x)
item_at [] n h = absurd (omega (arith, h))
item_at (x ∷ xs) zero h = (x, refl)
item_at (x ∷ xs) (suc n) h = item_at xs n (omega (arith, h))

-- a name by its number, in a list of different names that is not too long
pub name_by : (names : List (List ℕ)) → are_distinct names ≡ true → length names ≤ 4096 → (n : ℕ) → nat_lt n (length names) ≡ true → (name : List ℕ) × (listed : Listed names name) × (listed.number ≡ n)
name_by names apart few n h =
    let lt : n < length names = ltb-true n (length names) h in
    let found = item_at names n lt in
    (found.0, record { number = n; is = place names apart n found.0 found.1; at = found.1; small = omega (arith, lt, few) }, refl)

-- ---- the index of a list of properties

module _ (props : List (List ℕ)) where
  abbrev KeysOf : List (Cell × Value) → Type 0
  KeysOf es = AllByRecursion (λ e. HasKey props e.0) es

  abbrev pub index_list : List (Cell × Value) → List Entry
  index_list es = flat_map (index_entries props) es

  -- the entry of the index for a property
  abbrev pub entry_of : (e : Cell × Value) → HasKey props e.0 → Entry
  entry_of e k = (index_key e.0.0 k.name.number (key_of e.1), [])

  given : (e : Cell × Value) (k : HasKey props e.0) → index_entries props e ≡ entry_of e k ∷ []
  given e k = gives_is props e.0 k e.1

  pub index_each : (Q : Entry → Type 0) (es : List (Cell × Value)) → KeysOf es → AllByRecursion (λ e. (k : HasKey props e.0) → Q (entry_of e k)) es → AllByRecursion Q (index_list es)
  index_each Q [] keys h = tt
  index_each Q (e ∷ es) keys h = subst (λ l. AllByRecursion Q (l ++ index_list es)) (sym (given e keys.0)) (h.0 keys.0, index_each Q es keys.1 h.1)

  pub each_index : (Q : Entry → Type 0) (es : List (Cell × Value)) → KeysOf es → AllByRecursion Q (index_list es) → AllByRecursion (λ e. (k : HasKey props e.0) → Q (entry_of e k)) es
  each_index Q [] keys h = tt
  each_index Q (e ∷ es) keys h = (
    (λ k. let l = subst (λ l. AllByRecursion Q (l ++ index_list es)) (given e k) h in l.0),
    each_index Q es keys.1 (let l = subst (λ l. AllByRecursion Q (l ++ index_list es)) (given e keys.0) h in l.1),
  )

  pub index_length : (es : List (Cell × Value)) → KeysOf es → length (index_list es) ≡ length es
  index_length [] keys = refl
  index_length (e ∷ es) keys = ap (λ l. length (l ++ index_list es)) (given e keys.0) ∙ ap suc (index_length es keys.1)

  same_cell : (x y : Cell) (h : HasKey props x) (k : HasKey props y) → x.0 ≡ y.0 → h.name.number ≡ k.name.number → x ≡ y
  same_cell x y h k id number =
      let name = same_some x.1 y.1 (sym h.name.at ∙ ap (slice_get props) number ∙ k.name.at) in
      λ i. (id i, name i)

  pub index_apart_list : (es : List (Cell × Value)) → KeysOf es → AreApart es → AreApart (index_list es)
  index_apart_list [] keys h = tt
  index_apart_list (e ∷ es) keys h = subst (λ l. AreApart (l ++ index_list es)) (sym (given e keys.0)) (
    index_each (λ y. y.0 ≢ index_key e.0.0 keys.0.name.number (key_of e.1)) es keys.1 (each_too (λ x differs k same.
        let parts = index_apart x.0.0 e.0.0 k.name.number keys.0.name.number (key_of x.1) (key_of e.1) k.id keys.0.id k.name.small keys.0.name.small same in
        differs (same_cell x.0 e.0 k keys.0 parts.0 parts.1)) es h.0),
    index_apart_list es keys.1 h.1,
  )

-- ---- what is read of an entry

pub prop_read : (id : EntityId) (prop : ℕ) → IsShort id → prop < 2 ^ 32 → prop_in (property_key id prop) ≡ Some (id, prop)
unfolding prop_in
prop_read id prop s small = written (λ p. Some (property_key p.0 p.1)) (property_key id prop) (Some (id_at (property_key id prop), of_u32 (u32 prop))) (id, prop)
    (λ i. Some (id_at-bytes id (u32 prop) s i, u32_back prop small i)) refl

pub value_comes : (value : Value) → is_value value ≡ true → value_read (stored value) ≡ Some value
value_comes value h =
    ap (λ v. cond (is_value v) (only_written (λ x. Some (stored x)) (stored value) (Some v)) None) (value_back value h)
    ∙ ap (λ b. cond b (only_written (λ x. Some (stored x)) (stored value) (Some value)) None) h
    ∙ written (λ x. Some (stored x)) (stored value) (Some value) value refl refl

value_was : (bytes : List ℕ) (value : Value) → value_read bytes ≡ Some value → (value_in bytes ≡ value) × (stored value ≡ bytes) × (is_value value ≡ true)
value_was bytes value e = at (is_value (value_in bytes)) refl e
  where
    at : (b : Bool) → is_value (value_in bytes) ≡ b → cond b (only_written (λ x. Some (stored x)) bytes (Some (value_in bytes))) None ≡ Some value → (value_in bytes ≡ value) × (stored value ≡ bytes) × (is_value value ≡ true)
    at false h e = absurd (not_none value (sym e))
    at true h e =
        let same = was_read (λ x. Some (stored x)) bytes (value_in bytes) value e in
        (same, same_some (stored value) bytes (was_written (λ x. Some (stored x)) bytes (Some (value_in bytes)) value e), subst (λ v. is_value v ≡ true) same h)

-- a property that stands in the trees
pub record CellStands (props : List (List ℕ)) (ids : FinMap id_cmp (Unit {0})) (index : Tree) (e : Cell × Value) : Type 0 where
  pub keyed : HasKey props e.0
  pub there : is_some (get ids e.0.0) ≡ true
  pub value : is_value e.1 ≡ true
  pub long : nat_le (text_length e.1) LONGEST_TEXT ≡ true
  pub indexed : get index (index_key e.0.0 keyed.name.number (key_of e.1)) ≡ Some []

-- an entry of such a property
pub record CellEntry (props : List (List ℕ)) (ids : FinMap id_cmp (Unit {0})) (index : Tree) (e : Entry) : Type 0 where
  pub cell : Cell
  pub is : cell_in props e.0 ≡ Some cell
  pub key : cell_key props cell ≡ Some e.0
  pub back : stored (value_in e.1) ≡ e.1
  pub stands : CellStands props ids index (cell, value_in e.1)

-- the ids of keys of a tree of entities are in a map
abbrev pub AreThere : FinMap id_cmp (Unit {0}) → Tree → Type 0
AreThere ids tree = (id : EntityId) → id_at (id_bytes id) ≡ id → is_some (get tree (entity_key id)) ≡ true → IsShort id × (is_some (get ids id) ≡ true)

module _ (props : List (List ℕ)) (apart : are_distinct props ≡ true) (few : length props ≤ 4096) (entities index : Tree) (ids : FinMap id_cmp (Unit {0})) (there : AreThere ids entities) where
  cell_entry : (e : Entry) → is_property_entry (length props) entities index e ≡ true → CellEntry props ids index e
  unfolding prop_in
  cell_entry e h =
      let read = held (λ prop. holds (is_property (length props) entities index prop) (value_read e.1)) (prop_in e.0) h in
      let id = read.0.0 in
      let number = read.0.1 in
      let known = held (is_property (length props) entities index read.0) (value_read e.1) read.2 in
      let value = known.0 in
      let was = value_was e.1 value known.1 in
      let tests = four_parts (nat_lt number (length props)) (is_some (get entities (entity_key id))) (nat_le (text_length value) LONGEST_TEXT) (is_written (get index (index_key id number (key_of value))) []) known.2 in
      let name = name_by props apart few number tests.0 in
      let key : property_key id number ≡ e.0 = same_some (property_key id number) e.0 (was_written (λ p. Some (property_key p.0 p.1)) e.0 (Some (id_at e.0, of_u32 (drop 8 e.0))) (id, number) read.1) in
      let own = was_read (λ p. Some (property_key p.0 p.1)) e.0 (id_at e.0, of_u32 (drop 8 e.0)) (id, number) read.1 in
      let is_id : id_at e.0 ≡ id = ap (λ p. p.0) own in
      let is_number : of_u32 (drop 8 e.0) ≡ number = ap (λ p. p.1) own in
      let found = there id (ap id_at key ∙ is_id) tests.1 in
      let cell_is : cell_key props (id, name.0) ≡ Some e.0 = ap (option_map (property_key id)) name.1.is ∙ ap (λ n. Some (property_key id n)) name.2 ∙ ap Some key in
      record {
        cell = (id, name.0);
        is = written (cell_key props) e.0 (option_map (λ n. (id_at e.0, n)) (slice_get props (of_u32 (drop 8 e.0)))) (id, name.0)
            ((λ i. option_map (λ n. (is_id i, n)) (slice_get props (is_number i))) ∙ ap (λ k. option_map (λ n. (id, n)) (slice_get props k)) (sym name.2) ∙ ap (option_map (λ n. (id, n))) name.1.at) cell_is;
        key = cell_is;
        back = ap stored was.0 ∙ was.1;
        stands = record {
          keyed = record { id = found.0; name = name.1 };
          there = found.1;
          value = subst (λ v. is_value v ≡ true) (sym was.0) was.2;
          long = subst (λ v. nat_le (text_length v) LONGEST_TEXT ≡ true) (sym was.0) tests.2;
          indexed = (λ i. get index (index_key id (name.2 i) (key_of (was.0 i)))) ∙ is_at (get index (index_key id number (key_of value))) [] tests.3;
        };
      }

  module _ (t : Tree) (all : AllByRecursion (λ e. is_property_entry (length props) entities index e ≡ true) (entries t)) where
    abbrev pub cells : FinMap cell_cmp Value
    cells = carry (cell_in props) value_in cell_cmp t

    each_entry : AllByRecursion (CellEntry props ids index) (entries t)
    each_entry = each_too cell_entry (entries t) all

    cells_return : AllByRecursion (Returns (cell_in props) value_in (cell_key props) stored) (entries t)
    cells_return = each_too (λ e r. (r.cell, r.is, r.key, r.back)) (entries t) each_entry

    -- the tree is that of the properties that are read from it
    pub properties_are : t ≡ carry (cell_key props) stored bytes_cmp cells
    properties_are = sym (comes_back cell_total cell_same bytes_total bytes_same (cell_in props) value_in (cell_key props) stored t cells_return)

    pub cells_stand : AllByRecursion (CellStands props ids index) (entries cells)
    cells_stand = each_from cell_total cell_same (CellStands props ids index) (carried (cell_in props) value_in (entries t))
        (each_image (cell_in props) value_in (CellStands props ids index) (entries t)
        (each_too (λ e r l is. subst (λ c. CellStands props ids index (c, value_in e.1)) (same_some r.cell l (sym r.is ∙ is)) r.stands) (entries t) each_entry))

    -- and the index is theirs, where it has as many entries
    pub index_is : len index ≡ len t → index ≡ from_entries (index_list props (entries cells))
    index_is long =
        let keys = each_too (λ e s. s.keyed) (entries cells) cells_stand in
        same_by_lookups bytes_total bytes_same (index_list props (entries cells)) index
        (index_apart_list props (entries cells) keys (entries_apart cell_total cells))
        (index_each props (λ e. get index e.0 ≡ Some e.1) (entries cells) keys
        (each_too (λ e s k. ap (λ n. get index (index_key e.0.0 n (key_of e.1))) (same_some k.name.number s.keyed.name.number (sym k.name.is ∙ s.keyed.name.is)) ∙ s.indexed) (entries cells) cells_stand))
        (long ∙ sym (len_read cell_total cell_same bytes_total bytes_same (cell_in props) value_in (cell_key props) stored t cells_return) ∙ len-entries cells ∙ sym (index_length props (entries cells) keys))

-- ---- the other way round: the tables of properties that stand in the trees
module _ (rows : RowsValue) (keys : HaveKeys rows.props rows.values) where
  pub index_stands : AllByRecursion (λ e. (k : HasKey rows.props e.0) → get (index_tree rows) (index_key e.0.0 k.name.number (key_of e.1)) ≡ Some []) (entries rows.values)
  index_stands = each_index rows.props (λ e. get (index_tree rows) e.0 ≡ Some e.1) (entries rows.values) keys
      (stand_apart bytes_total bytes_same (index_list rows.props (entries rows.values)) (index_apart_list rows.props (entries rows.values) keys (entries_apart cell_total rows.values)))

  pub index_len : len (index_tree rows) ≡ length (entries rows.values)
  index_len = len_apart bytes_total bytes_same (index_list rows.props (entries rows.values)) (index_apart_list rows.props (entries rows.values) keys (entries_apart cell_total rows.values))
      ∙ index_length rows.props (entries rows.values) keys
