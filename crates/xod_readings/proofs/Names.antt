-- Names and their numbers are read as the rows have them.
use Rattle.std.proofs.Common.{◌≡◌, ◌⊎◌, inl, inr, eq-zero-or-pos, ℕ, zero, suc, ◌-◌, ◌<◌, ◌≤◌, ◌^◌, cond, ◌&&◌, List, [], ◌∷◌, ◌++◌, map, length, Option, Some, None, refl, sym, ap, subst, ◌∙◌, arith, nat_cmp, true, true≢false}
use Rattle.std.specs.Prelude.{is_some, nat_le, ◌==◌, if◌then◌else◌}
use Rattle.std.specs.Option.{option_map}
use Rattle.std.specs.List.{AllByRecursion, list_all, slice_get}
use Rattle.std.specs.Ordering.{is_eq}
use Rattle.std.specs.Cmp.{first_so, second_so, tied_itself, Equal-is}
use Rattle.std.specs.FinMap.{get}
use Rattle.std.proofs.lemmas.Bool.{cases_lt}
use Rattle.xod_base.specs.declared.limits.TheConstants.{MOST_NAMES}
use Rattle.xod_base.specs.declared.answer.NameKind.{NameKind}
use Rattle.xod_base.specs.declared.answer.NameKind.TheVariants.{Kinds, Props, Links}
use Rattle.xod_base.specs.Rows.{RowsValue, are_distinct, are_names, has_name_length, is_name, number_of}
use Rattle.xod_base.specs.Text.{is_text}
use Rattle.xod_base.specs.Values.{bytes_cmp, is_within}
use Rattle.xod_base.specs.Views.{Entry}
use Rattle.xod_base.proofs.CallerLemmas.{bytes_cmp-front}
use Rattle.xod_carry.specs.Carry.{numbered}
use Rattle.xod_carry.proofs.CallerLemmas.{bytes_total, bytes_same, numbers_total, numbers_same, each_append, each_too}
use Rattle.xod_tables.specs.Keys.{u32, kind_byte, name_key}
use Rattle.xod_tables.specs.LookUps.{TreesAnswer, names_of}
use Rattle.xod_tables.specs.Tables.{by_number, names_tree}
use Rattle.xod_tables.proofs.CallerLemmas.{Facts, facts, short, each_of_all, name_of_number, u32_back, u32_cmp, sound_answer, same_some, not_none}
use Rattle.xod_keys.specs.Pieces.{number_read, name_read}
use Rattle.xod_keys.specs.Readings.{LAST, IsNamesEnd, all_read, read_behind, read_there, names_at}
use Rattle.xod_readings.specs.Laws.{NamesOfRowsAreRead}
use Rattle.xod_readings.proofs.Bounds.{any_number, within_byte}
use Rattle.xod_readings.proofs.Ranging.{In, IsRange, each_carried, each_map, each_numbered, in_map, in_numbered, in_range_is, known_each, number_cmp, rises_map, rises_numbered}

-- ---- the numbers of names
number_there : (o : Option ℕ) → ((n : ℕ) → o ≡ Some n → n < 2 ^ 32) → read_there number_read (option_map u32 o) ≡ Some o
number_there None h = refl
number_there (Some n) h = ap (λ k. Some (Some k)) (u32_back n (h n refl))

pub small_number : (names : List (List ℕ)) → are_names names ≡ true → (name : List ℕ) (n : ℕ) → number_of names name ≡ Some n → n < 2 ^ 32
small_number names all name n is =
    let there = name_of_number names name n is in
    let within : n < length names = there.1 in
    let few = short names all in
    omega (arith, within, few)

-- ---- names by number
texts_of : (names : List (List ℕ)) → are_names names ≡ true → AllByRecursion (λ name. is_text name ≡ true) names
texts_of names all = each_too (λ name h. second_so (has_name_length name) (is_text name) h) names
    (each_of_all is_name names (second_so (nat_le (length names) MOST_NAMES && are_distinct names) (list_all is_name names) all))

name_there : (xs : List (List ℕ)) → AllByRecursion (λ name. is_text name ≡ true) xs → (n : ℕ) → read_there name_read (slice_get xs n) ≡ Some (slice_get xs n)
name_there [] h n = refl
name_there (x ∷ xs) h zero = ap (λ b. option_map (λ found. Some found) (cond b (Some x) None)) h.0
name_there (x ∷ xs) h (suc n) = name_there xs h.1 n

-- ---- places in a list
there_below : (xs : List (List ℕ)) (n : ℕ) → is_some (slice_get xs n) ≡ true → n < length xs
there_below [] n h = absurd (true≢false (sym h))
there_below (x ∷ xs) zero h = omega arith
there_below (x ∷ xs) (suc n) h = let lt = there_below xs n h in omega (arith, lt)

none_above : (xs : List (List ℕ)) (n : ℕ) → slice_get xs n ≡ None → length xs ≤ n
none_above [] n h = omega arith
none_above (x ∷ xs) zero h = absurd (not_none x h)
none_above (x ∷ xs) (suc n) h = let le = none_above xs n h in omega (arith, le)

-- ---- all names of a list

-- a list by its byte
list_of : ℕ → NameKind
list_of byte = if byte == 1 then Kinds else if byte == 2 then Props else Links

list_back : (list : NameKind) → list_of (kind_byte list) ≡ list
unfolding list_of
list_back Kinds = refl
list_back Props = refl
list_back Links = refl

abbrev name_entry : NameKind → ℕ × List ℕ → Entry
name_entry list name = (name_key list name.0, name.1)

names_read : (list : NameKind) (i : ℕ) (names : List (List ℕ)) → AllByRecursion (λ name. is_text name ≡ true) names
    → all_read (λ entry. name_read entry.1) (map (name_entry list) (numbered i names)) ≡ Some names
names_read list i [] h = refl
names_read list i (x ∷ xs) h = λ j. read_behind (cond (h.0 j) (Some x) None) (names_read list (suc i) xs h.1 j)

module _ (rows : RowsValue) (f : Facts rows) (a : TreesAnswer rows) where
  names_fit : (list : NameKind) → are_names (names_of rows list) ≡ true
  names_fit Kinds = f.types
  names_fit Props = f.props
  names_fit Links = f.links

  small_place : (list : NameKind) (j : ℕ) (x : List ℕ) → slice_get (names_of rows list) j ≡ Some x → j < 2 ^ 32
  small_place list j x is =
      let within = there_below (names_of rows list) j (ap is_some is) in
      let few = short (names_of rows list) (names_fit list) in
      omega (arith, within, few)

  abbrev table : NameKind → List Entry
  table list = map (name_entry list) (numbered 0 (names_of rows list))

  abbrev in_list : NameKind → List ℕ → Type 0
  in_list list key = is_within (name_key list 0) (name_key list LAST) key ≡ true

  own_key : (list : NameKind) (n : ℕ) → n < 2 ^ 32 → in_list list (name_key list n)
  own_key list n h = within_byte (kind_byte list) (kind_byte list) (u32 0) (u32 LAST) (u32 n)
      ∙ (λ i. is_eq (tied_itself numbers_total (kind_byte list) i) && any_number n h i)

  -- a key that lies in a list's range is one of that list
  same_list : (list other : NameKind) (n : ℕ) → in_list list (name_key other n) → list ≡ other
  same_list list other n w =
      let order = nat_cmp (kind_byte list) (kind_byte other) in
      let byte = numbers_same (kind_byte list) (kind_byte other) ((Equal-is order).0
      (first_so (is_eq order) (is_within (u32 0) (u32 LAST) (u32 n)) (sym (within_byte (kind_byte list) (kind_byte other) (u32 0) (u32 LAST) (u32 n)) ∙ w))) in
      sym (list_back list) ∙ ap list_of byte ∙ list_back other

  abbrev Met : NameKind → Entry → Type 0
  Met list entry = in_list list entry.0 → In entry (table list)

  met_of : (list other : NameKind) → AllByRecursion (Met list) (by_number other (names_of rows other))
  met_of list other = each_carried (λ n. Some (name_key other n)) (λ name. name) (Met list) (numbered 0 (names_of rows other))
      (each_numbered (λ e. (l : List ℕ) → Some (name_key other e.0) ≡ Some l → Met list (l, e.1)) (names_of rows other)
      (λ j x is l at w.
      let key = same_some (name_key other j) l at in
      let same = same_list list other j (ap (is_within (name_key list 0) (name_key list LAST)) key ∙ w) in
      subst (λ k. In (k, x) (table list)) key
      (subst (λ o. In (name_key other j, x) (table o)) (sym same) (in_map (name_entry other) (numbered 0 (names_of rows other)) (j, x) (in_numbered j (names_of rows other) x is)))))

  each_name : (list : NameKind) (P : Entry → Type 0) → ((j : ℕ) (x : List ℕ) → slice_get (names_of rows list) j ≡ Some x → P (name_key list j, x))
      → AllByRecursion P (table list)
  each_name list P h = each_map P (name_entry list) (numbered 0 (names_of rows list)) (each_numbered (λ name. P (name_entry list name)) (names_of rows list) h)

  names_range : (list : NameKind) → IsRange (name_key list 0) (name_key list LAST) (names_tree rows) (table list)
  names_range list = record {
    rises = rises_map number_cmp (λ x y. bytes_cmp x.0 y.0) (λ name. name.0 < 2 ^ 32) (name_entry list)
        (λ x y p q less. bytes_cmp-front (kind_byte list ∷ []) (u32 x.0) (u32 y.0) ∙ u32_cmp x.0 y.0 p q ∙ less)
        (numbered 0 (names_of rows list)) (each_numbered (λ name. name.0 < 2 ^ 32) (names_of rows list) (small_place list)) (rises_numbered 0 (names_of rows list));
    within = each_name list (λ e. in_list list e.0) (λ j x is. own_key list j (small_place list j x is));
    stand = each_name list (λ e. get (names_tree rows) e.0 ≡ Some e.1) (λ j x is. a.names list j (small_place list j x is) ∙ is);
    met = λ key name is. known_each bytes_total bytes_same (Met list) (by_number Kinds rows.types ++ (by_number Props rows.props ++ by_number Links rows.links)) key name
        (each_append (Met list) (by_number Kinds rows.types) (by_number Props rows.props ++ by_number Links rows.links) (met_of list Kinds)
        (each_append (Met list) (by_number Props rows.props) (by_number Links rows.links) (met_of list Props) (met_of list Links))) is;
  }

  all_are_read : (list : NameKind) → names_at list (names_tree rows) ≡ Some (names_of rows list)
  all_are_read list = ap (all_read (λ entry. name_read entry.1)) (in_range_is (name_key list 0) (name_key list LAST) (names_tree rows) (table list) (names_range list))
      ∙ names_read list 0 (names_of rows list) (texts_of (names_of rows list) (names_fit list))

  -- ---- the end of a list
  module _ (list : NameKind) (n : ℕ) (end : IsNamesEnd list (names_tree rows) n) where
    end_below : n ≤ length (names_of rows list)
    end_below = at (eq-zero-or-pos n)
      where
        at : (n ≡ 0) ⊎ (0 < n) → n ≤ length (names_of rows list)
        at (inl is) = omega (arith, is)
        at (inr lt) =
            let most : n ≤ 4096 = end.most in
            let below = there_below (names_of rows list) (n - 1) (ap is_some (sym (a.names list (n - 1) (omega (arith, most, lt)))) ∙ end.below lt) in
            omega (arith, below, lt)

    end_above : length (names_of rows list) ≤ n
    end_above = at (cases_lt n 4096)
      where
        at : (n < 4096) ⊎ (4096 ≤ n) → length (names_of rows list) ≤ n
        at (inl lt) = none_above (names_of rows list) n (sym (a.names list n (omega (arith, lt))) ∙ end.above lt)
        at (inr most) = let few = short (names_of rows list) (names_fit list) in omega (arith, most, few)

    end_is : n ≡ length (names_of rows list)
    end_is = let le = end_below in let ge = end_above in omega (arith, le, ge)

pub names_are_read : NamesOfRowsAreRead
names_are_read rows h =
    let f = facts rows h in
    let a = sound_answer rows h in
    record {
      number = λ list name. ap (read_there number_read) (a.numbers list name)
          ∙ number_there (number_of (names_of rows list) name) (small_number (names_of rows list) (names_fit rows f a list) name);
      name = λ list n small. ap (read_there name_read) (a.names list n small)
          ∙ name_there (names_of rows list) (texts_of (names_of rows list) (names_fit rows f a list)) n;
      all = all_are_read rows f a;
      end = end_is rows f a;
    }
