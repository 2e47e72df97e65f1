-- What soundness says, as facts.
use Rattle.std.proofs.Common.{◌≡◌, ℕ, zero, suc, ◌<◌, ◌≤◌, ◌^◌, Bool, true, false, cond, List, [], ◌∷◌, map, length, Option, Some, None, refl, sym, ap, subst, arith, ltb-true, leb-true, eqb-true, true≢false}
use Rattle.std.specs.Prelude.{◌&&◌, ◌==◌, is_some, IsTrue, nat_le}
use Rattle.std.specs.Cmp.{first_so, second_so}
use Rattle.std.specs.Cmp.Lexicographic.{bytes_decides}
use Rattle.std.specs.List.{AllByRecursion, list_all, slice_get}
use Rattle.std.specs.FinMap.{get, entries, keys}
use Rattle.xod_base.specs.declared.limits.TheConstants.{MOST_NAMES, LONGEST_TEXT, MOST_LOCALS}
use Rattle.xod_base.specs.declared.value.EntityId.{EntityId}
use Rattle.xod_base.specs.declared.value.Value.{Value}
use Rattle.xod_base.specs.Rows.{RowsValue, Cell, LinkKey, is_sound, are_names, are_distinct, is_name, is_listed, is_drawn, is_cell, is_join, next_of, number_of, one_further, text_length}
use Rattle.xod_base.specs.Values.{is_value, same_bytes}
use Rattle.xod_carry.proofs.CallerLemmas.{each_too, each_get}
use Rattle.xod_tables.specs.Keys.{IsShort}
use Rattle.xod_tables.proofs.Orders.{id_total, id_same}
use Rattle.xod_tables.proofs.Written.{same_some, not_none}

pub each_of_all : {A : Type 0} (p : A → Bool) (xs : List A) → list_all p xs ≡ true → AllByRecursion (λ x. p x ≡ true) xs
each_of_all p [] h = tt
each_of_all p (x ∷ xs) h = (first_so (p x) (list_all p xs) h, each_of_all p xs (second_so (p x) (list_all p xs) h))

each_of_keys : {K X : Type 0} (p : K → Bool) (es : List (K × X)) → list_all p (map (λ e. e.0) es) ≡ true → AllByRecursion (λ e. p e.0 ≡ true) es
each_of_keys p [] h = tt
each_of_keys p (e ∷ es) h = let rest = list_all p (map (λ x. x.0) es) in (first_so (p e.0) rest h, each_of_keys p es (second_so (p e.0) rest h))

pub is_some_at : {A : Type 0} (o : Option A) → is_some o ≡ true → (x : A) × (o ≡ Some x)
is_some_at None h = absurd (true≢false (sym h))
is_some_at (Some x) h = (x, refl)

eight : (a b c d e f g h : Bool) → (a && b && c && d && e && f && g && h) ≡ true → (a ≡ true) × (b ≡ true) × (c ≡ true) × (d ≡ true) × (e ≡ true) × (f ≡ true) × (g ≡ true) × (h ≡ true)
eight true true true true true true true h all = (refl, refl, refl, refl, refl, refl, refl, all)
eight false b c d e f g h all = absurd (true≢false (sym all))
eight true false c d e f g h all = absurd (true≢false (sym all))
eight true true false d e f g h all = absurd (true≢false (sym all))
eight true true true false e f g h all = absurd (true≢false (sym all))
eight true true true true false f g h all = absurd (true≢false (sym all))
eight true true true true true false g h all = absurd (true≢false (sym all))
eight true true true true true true false h all = absurd (true≢false (sym all))

pub record Facts (rows : RowsValue) : Type 0 where
  pub types : are_names rows.types ≡ true
  pub props : are_names rows.props ≡ true
  pub links : are_names rows.links ≡ true
  pub as_many : length rows.nexts ≡ length rows.types
  pub nexts : AllByRecursion (λ next. nat_le next MOST_LOCALS ≡ true) rows.nexts
  pub ids : AllByRecursion (λ e. is_drawn rows.nexts e.0 ≡ true) (entries rows.ids)
  pub cells : AllByRecursion (λ e. is_cell rows e ≡ true) (entries rows.values)
  pub joins : AllByRecursion (λ e. is_join rows e.0 ≡ true) (entries rows.joined)

pub facts : (rows : RowsValue) → IsTrue (is_sound rows) → Facts rows
facts rows h =
    let all = eight (are_names rows.types) (are_names rows.props) (are_names rows.links) (length rows.nexts == length rows.types)
    (list_all (λ next. nat_le next MOST_LOCALS) rows.nexts) (list_all (λ e. is_drawn rows.nexts e.0) (entries rows.ids)) (list_all (is_cell rows) (entries rows.values)) (list_all (is_join rows) (keys rows.joined)) h in
    let many = all.3 in
    record {
      types = all.0;
      props = all.1;
      links = all.2;
      as_many = eqb-true (length rows.nexts) (length rows.types) many;
      nexts = each_of_all (λ next. nat_le next MOST_LOCALS) rows.nexts all.4;
      ids = each_of_all (λ e. is_drawn rows.nexts e.0) (entries rows.ids) all.5;
      cells = each_of_all (is_cell rows) (entries rows.values) all.6;
      joins = each_of_keys (is_join rows) (entries rows.joined) all.7;
    }

-- no list of names is longer than 4096
pub short : (names : List (List ℕ)) → are_names names ≡ true → length names ≤ 4096
short names h = leb-true (length names) MOST_NAMES (eight true true true true true (nat_le (length names) MOST_NAMES) (are_distinct names) (list_all is_name names) h).5

-- ---- names and their numbers
number_step : (b : Bool) (o : Option ℕ) (x n : List ℕ) (xs : List (List ℕ)) (i : ℕ) → (b ≡ true → x ≡ n) → ((j : ℕ) → o ≡ Some j → (slice_get xs j ≡ Some n) × (j < length xs)) → cond b (Some 0) (one_further o) ≡ Some i → (slice_get (x ∷ xs) i ≡ Some n) × (i < suc (length xs))
number_step true o x n xs i is rec e = let zero_is : 0 ≡ i = same_some 0 i e in subst (λ k. (slice_get (x ∷ xs) k ≡ Some n) × (k < suc (length xs))) zero_is (ap Some (is refl), omega arith)
number_step false None x n xs i is rec e = absurd (not_none i (sym e))
number_step false (Some j) x n xs i is rec e = let next : suc j ≡ i = same_some (suc j) i e in let r = rec j refl in let lt : j < length xs = r.1 in subst (λ k. (slice_get (x ∷ xs) k ≡ Some n) × (k < suc (length xs))) next (r.0, omega arith)

-- a name stands at its number
pub name_of_number : (xs : List (List ℕ)) (n : List ℕ) (i : ℕ) → number_of xs n ≡ Some i → (slice_get xs i ≡ Some n) × (i < length xs)
name_of_number [] n i e = absurd (not_none i (sym e))
name_of_number (x ∷ xs) n i e = number_step (same_bytes x n) (number_of xs n) x n xs i (λ b. (bytes_decides x n).0 b) (λ j is. name_of_number xs n j is) e

-- a listed name of a list that is not too long
pub record Listed (names : List (List ℕ)) (name : List ℕ) : Type 0 where
  pub number : ℕ
  pub is : number_of names name ≡ Some number
  pub at : slice_get names number ≡ Some name
  pub small : number < 2 ^ 32

pub listed : (names : List (List ℕ)) (name : List ℕ) → are_names names ≡ true → is_listed names name ≡ true → Listed names name
listed names name all h =
    let found = is_some_at (number_of names name) h in
    let there = name_of_number names name found.0 found.1 in
    let few = short names all in
    let within : found.0 < length names = there.1 in
    record { number = found.0; is = found.1; at = there.0; small = omega (arith, few, within) }

-- ---- ids of sound rows
next_bound : (nexts : List ℕ) (kind local : ℕ) → AllByRecursion (λ next. nat_le next MOST_LOCALS ≡ true) nexts → local < next_of nexts kind → (kind < length nexts) × (local < 2 ^ 32)
next_bound [] kind local h lt = absurd (omega (arith, lt))
next_bound (first ∷ more) zero local h lt = let le : first ≤ MOST_LOCALS = leb-true first MOST_LOCALS h.0 in (omega arith, omega (arith, lt, le))
next_bound (first ∷ more) (suc kind) local h lt = let r = next_bound more kind local h.1 lt in let a : kind < length more = r.0 in (omega (arith, a), r.1)

pub drawn_short : (rows : RowsValue) → Facts rows → (id : EntityId) → is_drawn rows.nexts id ≡ true → IsShort id
drawn_short rows f id h =
    let b = next_bound rows.nexts id.kind id.local f.nexts (ltb-true id.local (next_of rows.nexts id.kind) h) in
    let few = short rows.types f.types in
    let many = f.as_many in
    let within : id.kind < length rows.nexts = b.0 in
    record { kind = omega (arith, few, many, within); local = b.1 }

-- an entity that is there was drawn
pub there_short : (rows : RowsValue) → Facts rows → (id : EntityId) → is_some (get rows.ids id) ≡ true → IsShort id
there_short rows f id h =
    let found = is_some_at (get rows.ids id) h in
    drawn_short rows f id (each_get id_total id_same (λ e. is_drawn rows.nexts e.0 ≡ true) rows.ids id found.0 f.ids found.1)

-- ---- properties of sound rows
pub record CellFits (rows : RowsValue) (e : Cell × Value) : Type 0 where
  pub id : IsShort e.0.0
  pub name : Listed rows.props e.0.1
  pub value : is_value e.1 ≡ true

four : (a b c d : Bool) → (a && b && c && d) ≡ true → (a ≡ true) × (b ≡ true) × (c ≡ true) × (d ≡ true)
four a b c d h = let t = eight true true true true a b c d h in (t.4, t.5, t.6, t.7)

pub cell_fits : (rows : RowsValue) → Facts rows → (e : Cell × Value) → is_cell rows e ≡ true → CellFits rows e
cell_fits rows f e h =
    let t = four (is_some (get rows.ids e.0.0)) (is_listed rows.props e.0.1) (is_value e.1) (nat_le (text_length e.1) LONGEST_TEXT) h in
    record { id = there_short rows f e.0.0 t.0; name = listed rows.props e.0.1 f.props t.1; value = t.2 }

pub cells_fit : (rows : RowsValue) → Facts rows → AllByRecursion (CellFits rows) (entries rows.values)
cells_fit rows f = each_too (cell_fits rows f) (entries rows.values) f.cells

-- ---- links of sound rows
pub record LinkFits (rows : RowsValue) (link : LinkKey) : Type 0 where
  pub source : IsShort link.0
  pub name : Listed rows.links link.1.0
  pub target : IsShort link.1.1

pub link_fits : (rows : RowsValue) → Facts rows → (link : LinkKey) → is_join rows link ≡ true → LinkFits rows link
link_fits rows f link h =
    let t = four true (is_some (get rows.ids link.0)) (is_some (get rows.ids link.1.1)) (is_listed rows.links link.1.0) h in
    record { source = there_short rows f link.0 t.1; target = there_short rows f link.1.1 t.2; name = listed rows.links link.1.0 f.links t.3 }

pub links_fit : (rows : RowsValue) → Facts rows → AllByRecursion (λ e. LinkFits rows e.0) (entries rows.joined)
links_fit rows f = each_too (λ e h. link_fits rows f e.0 h) (entries rows.joined) f.joins
