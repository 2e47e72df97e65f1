-- What the tables of sound rows have at each key.
use Rattle.std.proofs.Common.{◌≡◌, ◌≢◌, ℕ, zero, suc, ◌+◌, ◌<◌, ◌^◌, Bool, true, false, cond, T, ◌&&◌, List, [], ◌∷◌, ◌++◌, map, length, drop, Option, Some, None, refl, sym, ap, subst, ◌∙◌, arith, true≢false}
use Rattle.std.specs.Prelude.{◌||◌, is_some, IsTrue}
use Rattle.std.specs.Option.{option_map, option_or}
use Rattle.std.specs.List.{AllByRecursion, slice_get, flat_map}
use Rattle.std.specs.Ordering.{eq_by_cmp, is_eq, is_lt}
use Rattle.std.specs.Cmp.{tied_itself}
use Rattle.std.specs.Cmp.Lexicographic.{bytes_decides}
use Rattle.std.specs.FinMap.{FinMap, get, find, insert, remove, entries, entries_sorted, is_sorted, get-from_entries, get-insert}
use Rattle.std.specs.FinMap.Entries.{below_all}
use Rattle.std.proofs.lemmas.List.{append_cancel_right}
use Rattle.xod_base.specs.declared.value.EntityId.{EntityId}
use Rattle.xod_base.specs.declared.value.Value.{Value}
use Rattle.xod_base.specs.declared.answer.NameKind.{NameKind}
use Rattle.xod_base.specs.declared.answer.NameKind.TheVariants.{Kinds, Props, Links}
use Rattle.xod_base.specs.Rows.{RowsValue, Cell, id_cmp, cell_cmp, number_of, one_further, is_sound, are_names}
use Rattle.xod_base.specs.Values.{bytes_cmp, same_bytes, key_of, has_key}
use Rattle.xod_base.specs.Views.{Entry}
use Rattle.xod_base.proofs.CallerLemmas.{bytes_cmp-front}
use Rattle.xod_carry.specs.Carry.{carried, numbered}
use Rattle.xod_carry.specs.Index.{index, all_put}
use Rattle.xod_carry.proofs.CallerLemmas.{bytes_total, bytes_same, tied_is, each_both, each-remove, insert-remove, insert_same, get_removed, absent_keys, entries-from_entries, get-carry, index-new, find-append, not_found}
use Rattle.xod_tables.specs.Keys.{IsShort, u32, u64, kind_byte, name_key, number_key, next_key, entity_key, property_key, index_key, link_key, back_key, cell_key, join_key, join_back_key, index_entries, stored}
use Rattle.xod_tables.specs.Tables.{by_number, by_name, names_tree, numbers_tree}
use Rattle.xod_tables.specs.LookUps.{TreesAnswer, names_of, option_has_key}
use Rattle.xod_tables.proofs.Facts.{Facts, facts, short, name_of_number}
use Rattle.xod_tables.proofs.KeyOrders.{id_alone}
use Rattle.xod_tables.proofs.KeysOwn.{id_own, ids_short, HasKey, HaveKeys, cell_keys, key_is, gives_is, cell_own, same_cell, cell_alone, HasLinkKey, link_keys, out_is, back_is, out_own, back_own}
use Rattle.xod_tables.proofs.NameKeys.{Lacks, one_number, one_kind, kinds_props, kinds_links, props_links, others_by_number, others_by_name}
use Rattle.xod_tables.proofs.Orders.{id_total, id_same, cell_total, cell_same, link_total, link_same}

-- ---- keys that tie
untied : (a b : List ℕ) → (a ≢ b) → eq_by_cmp bytes_cmp a b ≡ false
untied a b apart = at (eq_by_cmp bytes_cmp a b) refl
  where
    at : (c : Bool) → eq_by_cmp bytes_cmp a b ≡ c → c ≡ false
    at true t = absurd (apart (tied_is bytes_same a b t))
    at false t = refl

tied : (a b : List ℕ) → eq_by_cmp bytes_cmp a b ≡ same_bytes b a
tied a b = at (same_bytes b a) refl
  where
    at : (c : Bool) → same_bytes b a ≡ c → eq_by_cmp bytes_cmp a b ≡ c
    at true e = ap (λ x. is_eq (bytes_cmp a x)) ((bytes_decides b a).0 e) ∙ ap is_eq (tied_itself bytes_total a)
    at false e = untied a b (λ is. true≢false (sym ((bytes_decides b a).1 (sym is)) ∙ e))

lacking : (q : List ℕ) (es : List Entry) → Lacks q es → find bytes_cmp q es ≡ None
lacking q [] h = refl
lacking q (e ∷ es) h = ap (λ b. cond b (Some e.1) (find bytes_cmp q es)) (untied q e.0 (λ is. h.0 (sym is))) ∙ lacking q es h.1

or_none : {A : Type 0} (o : Option A) → option_or o None ≡ o
or_none None = refl
or_none (Some x) = refl

-- of three lists one has the key
in_three : (q : List ℕ) (xs ys zs : List Entry) → find bytes_cmp q (xs ++ (ys ++ zs)) ≡ option_or (find bytes_cmp q xs) (option_or (find bytes_cmp q ys) (find bytes_cmp q zs))
in_three q xs ys zs = find-append bytes_total bytes_same q xs (ys ++ zs) ∙ ap (option_or (find bytes_cmp q xs)) (find-append bytes_total bytes_same q ys zs)

module _ (q : List ℕ) (xs ys zs : List Entry) where
  in_first : Lacks q ys → Lacks q zs → find bytes_cmp q (xs ++ (ys ++ zs)) ≡ find bytes_cmp q xs
  in_first b c = in_three q xs ys zs ∙ (λ i. option_or (find bytes_cmp q xs) (option_or (lacking q ys b i) (lacking q zs c i))) ∙ or_none (find bytes_cmp q xs)

  in_second : Lacks q xs → Lacks q zs → find bytes_cmp q (xs ++ (ys ++ zs)) ≡ find bytes_cmp q ys
  in_second a c = in_three q xs ys zs ∙ (λ i. option_or (lacking q xs a i) (option_or (find bytes_cmp q ys) (lacking q zs c i))) ∙ or_none (find bytes_cmp q ys)

  in_third : Lacks q xs → Lacks q ys → find bytes_cmp q (xs ++ (ys ++ zs)) ≡ find bytes_cmp q zs
  in_third a b = in_three q xs ys zs ∙ (λ i. option_or (lacking q xs a i) (option_or (lacking q ys b i) (find bytes_cmp q zs)))

-- ---- items by number
module _ {X : Type 0} (f : ℕ → List ℕ) (one : (i j : ℕ) → i < 2 ^ 32 → j < 2 ^ 32 → f i ≡ f j → i ≡ j) (g : X → List ℕ) where
  item_from : (i j : ℕ) (xs : List X) → i + j < 2 ^ 32 → find bytes_cmp (f (i + j)) (carried (λ n. Some (f n)) g (numbered i xs)) ≡ option_map g (slice_get xs j)
  item_from i j [] h = refl
  item_from i zero (x ∷ xs) h =
      let is : i + 0 ≡ i = omega arith in
      ap (λ k. find bytes_cmp (f k) (carried (λ n. Some (f n)) g (numbered i (x ∷ xs)))) is
      ∙ ap (λ r. cond (is_eq r) (Some (g x)) (find bytes_cmp (f i) (carried (λ n. Some (f n)) g (numbered (suc i) xs)))) (tied_itself bytes_total (f i))
  item_from i (suc j) (x ∷ xs) h =
      let is : i + suc j ≡ suc i + j = omega arith in
      let small : i < 2 ^ 32 = omega (arith, h) in
      ap (λ b. cond b (Some (g x)) (find bytes_cmp (f (i + suc j)) (carried (λ n. Some (f n)) g (numbered (suc i) xs))))
      (untied (f (i + suc j)) (f i) (λ e. let same : i + suc j ≡ i = one (i + suc j) i h small e in absurd (omega (arith, same))))
      ∙ ap (λ k. find bytes_cmp (f k) (carried (λ n. Some (f n)) g (numbered (suc i) xs))) is
      ∙ item_from (suc i) j xs (omega (arith, h))

  item_at : (j : ℕ) (xs : List X) → j < 2 ^ 32 → find bytes_cmp (f j) (carried (λ n. Some (f n)) g (numbered 0 xs)) ≡ option_map g (slice_get xs j)
  item_at j xs h = let is : j ≡ 0 + j = omega arith in ap (λ k. find bytes_cmp (f k) (carried (λ n. Some (f n)) g (numbered 0 xs))) is ∙ item_from 0 j xs (omega (arith, h))

map_itself : {A : Type 0} (o : Option A) → option_map (λ x. x) o ≡ o
map_itself None = refl
map_itself (Some x) = refl

-- ---- numbers by name
module _ (list : NameKind) (name : List ℕ) where
  name_tied : (x : List ℕ) → eq_by_cmp bytes_cmp (number_key list name) (number_key list x) ≡ same_bytes x name
  name_tied x = ap is_eq (bytes_cmp-front (kind_byte list ∷ []) name x) ∙ tied name x

  further : (i : ℕ) (b : Bool) (o : Option ℕ) → cond b (Some (u32 i)) (option_map (λ n. u32 (suc i + n)) o) ≡ option_map (λ n. u32 (i + n)) (cond b (Some 0) (one_further o))
  further i true o = let is : i ≡ i + 0 = omega arith in ap (λ k. Some (u32 k)) is
  further i false None = refl
  further i false (Some j) = let is : suc i + j ≡ i + suc j = omega arith in ap (λ k. Some (u32 k)) is

  number_from : (i : ℕ) (xs : List (List ℕ)) → find bytes_cmp (number_key list name) (map (λ e. (number_key list e.1, u32 e.0)) (numbered i xs)) ≡ option_map (λ n. u32 (i + n)) (number_of xs name)
  number_from i [] = refl
  number_from i (x ∷ xs) = ap (λ b. cond b (Some (u32 i)) (find bytes_cmp (number_key list name) (map (λ e. (number_key list e.1, u32 e.0)) (numbered (suc i) xs)))) (name_tied x)
      ∙ ap (cond (same_bytes x name) (Some (u32 i))) (number_from (suc i) xs)
      ∙ further i (same_bytes x name) (number_of xs name)

  from_nothing : (o : Option ℕ) → option_map (λ n. u32 (0 + n)) o ≡ option_map u32 o
  from_nothing None = refl
  from_nothing (Some n) = let is : 0 + n ≡ n = omega arith in ap (λ k. Some (u32 k)) is

  number_found : (xs : List (List ℕ)) → find bytes_cmp (number_key list name) (by_name list xs) ≡ option_map u32 (number_of xs name)
  number_found xs = number_from 0 xs ∙ from_nothing (number_of xs name)

numbers_answer : (rows : RowsValue) (list : NameKind) (name : List ℕ) → get (numbers_tree rows) (number_key list name) ≡ option_map u32 (number_of (names_of rows list) name)
numbers_answer rows Kinds name = get-from_entries bytes_total (by_name Kinds rows.types ++ (by_name Props rows.props ++ by_name Links rows.links)) (number_key Kinds name)
    ∙ in_first (number_key Kinds name) (by_name Kinds rows.types) (by_name Props rows.props) (by_name Links rows.links) (others_by_name Props Kinds (λ e. kinds_props (sym e)) 0 rows.props name) (others_by_name Links Kinds (λ e. kinds_links (sym e)) 0 rows.links name)
    ∙ number_found Kinds name rows.types
numbers_answer rows Props name = get-from_entries bytes_total (by_name Kinds rows.types ++ (by_name Props rows.props ++ by_name Links rows.links)) (number_key Props name)
    ∙ in_second (number_key Props name) (by_name Kinds rows.types) (by_name Props rows.props) (by_name Links rows.links) (others_by_name Kinds Props kinds_props 0 rows.types name) (others_by_name Links Props (λ e. props_links (sym e)) 0 rows.links name)
    ∙ number_found Props name rows.props
numbers_answer rows Links name = get-from_entries bytes_total (by_name Kinds rows.types ++ (by_name Props rows.props ++ by_name Links rows.links)) (number_key Links name)
    ∙ in_third (number_key Links name) (by_name Kinds rows.types) (by_name Props rows.props) (by_name Links rows.links) (others_by_name Kinds Links kinds_links 0 rows.types name) (others_by_name Props Links props_links 0 rows.props name)
    ∙ number_found Links name rows.links

name_found : (list : NameKind) (n : ℕ) (xs : List (List ℕ)) → n < 2 ^ 32 → find bytes_cmp (name_key list n) (by_number list xs) ≡ slice_get xs n
name_found list n xs h = item_at (name_key list) (one_number list) (λ name. name) n xs h ∙ map_itself (slice_get xs n)

names_answer : (rows : RowsValue) (list : NameKind) (n : ℕ) → n < 2 ^ 32 → get (names_tree rows) (name_key list n) ≡ slice_get (names_of rows list) n
names_answer rows Kinds n h = get-from_entries bytes_total (by_number Kinds rows.types ++ (by_number Props rows.props ++ by_number Links rows.links)) (name_key Kinds n)
    ∙ in_first (name_key Kinds n) (by_number Kinds rows.types) (by_number Props rows.props) (by_number Links rows.links) (others_by_number Props Kinds (λ e. kinds_props (sym e)) 0 rows.props n) (others_by_number Links Kinds (λ e. kinds_links (sym e)) 0 rows.links n)
    ∙ name_found Kinds n rows.types h
names_answer rows Props n h = get-from_entries bytes_total (by_number Kinds rows.types ++ (by_number Props rows.props ++ by_number Links rows.links)) (name_key Props n)
    ∙ in_second (name_key Props n) (by_number Kinds rows.types) (by_number Props rows.props) (by_number Links rows.links) (others_by_number Kinds Props kinds_props 0 rows.types n) (others_by_number Links Props (λ e. props_links (sym e)) 0 rows.links n)
    ∙ name_found Props n rows.props h
names_answer rows Links n h = get-from_entries bytes_total (by_number Kinds rows.types ++ (by_number Props rows.props ++ by_number Links rows.links)) (name_key Links n)
    ∙ in_third (name_key Links n) (by_number Kinds rows.types) (by_number Props rows.props) (by_number Links rows.links) (others_by_number Kinds Links kinds_links 0 rows.types n) (others_by_number Props Links props_links 0 rows.props n)
    ∙ name_found Links n rows.links h

-- ---- entities in order
parts : (a b : Bool) → T (a && b) → T a × T b
parts true b h = (tt, h)
parts false b h = absurd h

both : (a b : Bool) → T a → T b → T (a && b)
both true b p q = q
both false b p q = p

abbrev image : List (EntityId × Unit {0}) → List Entry
image es = carried (λ id. Some (entity_key id)) (λ _. []) es

below_image : (id : EntityId) → IsShort id → (es : List (EntityId × Unit {0})) → AllByRecursion (λ e. IsShort e.0) es → T (below_all id_cmp id es) → T (below_all bytes_cmp (entity_key id) (image es))
below_image id s [] all h = tt
below_image id s (e ∷ es) all h =
    let t = parts (is_lt (id_cmp id e.0)) (below_all id_cmp id es) h in
    both _ _ (subst (λ r. T (is_lt r)) (sym (id_alone id e.0 s all.0)) t.0) (below_image id s es all.1 t.1)

image_sorted : (es : List (EntityId × Unit {0})) → AllByRecursion (λ e. IsShort e.0) es → T (is_sorted id_cmp es) → T (is_sorted bytes_cmp (image es))
image_sorted [] all h = tt
image_sorted (e ∷ es) all h =
    let t = parts (below_all id_cmp e.0 es) (is_sorted id_cmp es) h in
    both _ _ (below_image e.0 all.0 es all.1 t.0) (image_sorted es all.1 t.1)

-- ---- the index
module _ (props : List (List ℕ)) (cell : Cell) (k : HasKey props cell) (key : List ℕ) where
  abbrev at_key : List ℕ
  at_key = index_key cell.0 k.name.number key

  -- a property that has no value is not there
  index_absent : (values : FinMap cell_cmp Value) → HaveKeys props values → get values cell ≡ None → get (index (index_entries props) bytes_cmp values) at_key ≡ None
  index_absent values all none = get-from_entries bytes_total (flat_map (index_entries props) (entries values)) at_key
      ∙ not_found cell_total cell_same bytes_total bytes_same (index_entries props) at_key (entries values)
      (each_both (λ e h other g. other (same_cell props cell k key e h g)) (entries values) all (absent_keys cell_total cell_same values cell none))

  tied_key : (value : Value) → eq_by_cmp bytes_cmp at_key (index_key cell.0 k.name.number (key_of value)) ≡ same_bytes key (key_of value)
  tied_key value = at (same_bytes key (key_of value)) refl
    where
      at : (b : Bool) → same_bytes key (key_of value) ≡ b → eq_by_cmp bytes_cmp at_key (index_key cell.0 k.name.number (key_of value)) ≡ b
      at true e = ap (λ v. is_eq (bytes_cmp at_key (index_key cell.0 k.name.number v))) (sym ((bytes_decides key (key_of value)).0 e)) ∙ ap is_eq (tied_itself bytes_total at_key)
      at false e = untied at_key (index_key cell.0 k.name.number (key_of value)) (λ is. true≢false (sym ((bytes_decides key (key_of value)).1 (append_cancel_right key (key_of value) (u32 cell.0.local) (ap (drop 8) is))) ∙ e))

  is_there : (b : Bool) (there : List ℕ) → is_some (cond b (Some there) None) ≡ (b || false)
  is_there true there = refl
  is_there false there = refl

  -- a property that has one is there under the key of its value alone
  index_there : (values : FinMap cell_cmp Value) → HaveKeys props values → (value : Value) → get values cell ≡ Some value → is_some (get (index (index_entries props) bytes_cmp values) at_key) ≡ has_key key value
  index_there values all value is =
      let gone = get_removed cell_total cell_same values cell in
      let rest = each-remove cell_total cell_same (λ e. HasKey props e.0) values cell all in
      let without = index (index_entries props) bytes_cmp (remove values cell) in
      let own = index_key cell.0 k.name.number (key_of value) in
      let back : insert (remove values cell) cell value ≡ values = insert-remove cell_total cell_same values cell value ∙ insert_same cell_total cell_same values cell value is in
      let whole : index (index_entries props) bytes_cmp values ≡ insert without own [] = ap (index (index_entries props) bytes_cmp) (sym back)
      ∙ index-new cell_total cell_same bytes_total bytes_same (index_entries props) (remove values cell) cell value gone (cell_alone props cell k value (remove values cell) rest)
      ∙ ap (λ l. all_put l without) (gives_is props cell k value) in
      ap (λ t. is_some (get t at_key)) whole
      ∙ ap is_some (get-insert bytes_total without own [] at_key)
      ∙ (λ i. is_some (cond (tied_key value i) (Some []) (index_absent (remove values cell) rest gone i)))
      ∙ is_there (same_bytes key (key_of value)) []

  index_at : (values : FinMap cell_cmp Value) → HaveKeys props values → (o : Option Value) → get values cell ≡ o → is_some (get (index (index_entries props) bytes_cmp values) at_key) ≡ option_has_key key o
  index_at values all None is = ap is_some (index_absent values all is)
  index_at values all (Some value) is = index_there values all value is

-- ---- all of them
module _ (rows : RowsValue) (f : Facts rows) where
  -- a name by its number
  numbered_name : (names : List (List ℕ)) → are_names names ≡ true → (name : List ℕ) (n : ℕ) → number_of names name ≡ Some n → (slice_get names n ≡ Some name) × (n < 2 ^ 32)
  numbered_name names all name n is =
      let there = name_of_number names name n is in
      let within : n < length names = there.1 in
      let few = short names all in
      (there.0, omega (arith, within, few))

  pub answers : TreesAnswer rows
  answers = record {
    numbers = numbers_answer rows;
    names = names_answer rows;
    nexts = λ kind h. get-from_entries bytes_total (carried (λ n. Some (next_key n)) u64 (numbered 0 rows.nexts)) (next_key kind) ∙ item_at next_key one_kind u64 kind rows.nexts h;
    entities = λ id s. get-carry id_total id_same bytes_total bytes_same (λ x. Some (entity_key x)) (λ _. []) rows.ids id (entity_key id) refl (id_own rows.ids (ids_short rows f) id s);
    rising = entries-from_entries bytes_total bytes_same (image (entries rows.ids)) (image_sorted (entries rows.ids) (ids_short rows f) (entries_sorted rows.ids));
    properties = λ id name prop s is.
        let there = numbered_name rows.props f.props name prop is in
        let k : HasKey rows.props (id, name) = record { id = s; name = record { number = prop; is = is; at = there.0; small = there.1 } } in
        get-carry cell_total cell_same bytes_total bytes_same (cell_key rows.props) stored rows.values (id, name) (property_key id prop) (key_is rows.props (id, name) k) (cell_own rows.props rows.values (cell_keys rows f) (id, name) k);
    indexed = λ id name prop key s is.
        let there = numbered_name rows.props f.props name prop is in
        let k : HasKey rows.props (id, name) = record { id = s; name = record { number = prop; is = is; at = there.0; small = there.1 } } in
        index_at rows.props (id, name) k key rows.values (cell_keys rows f) (get rows.values (id, name)) refl;
    linked = λ source name link target s t is.
        let there = numbered_name rows.links f.links name link is in
        let k : HasLinkKey rows.links (source, (name, target)) = record { source = s; name = record { number = link; is = is; at = there.0; small = there.1 }; target = t } in
        get-carry link_total link_same bytes_total bytes_same (join_key rows.links) (λ _. []) rows.joined (source, (name, target)) (link_key source link target) (out_is rows.links (source, (name, target)) k) (out_own rows.links rows.joined (link_keys rows f) (source, (name, target)) k);
    linked_back = λ source name link target s t is.
        let there = numbered_name rows.links f.links name link is in
        let k : HasLinkKey rows.links (source, (name, target)) = record { source = s; name = record { number = link; is = is; at = there.0; small = there.1 }; target = t } in
        get-carry link_total link_same bytes_total bytes_same (join_back_key rows.links) (λ _. []) rows.joined (source, (name, target)) (back_key source link target) (back_is rows.links (source, (name, target)) k) (back_own rows.links rows.joined (link_keys rows f) (source, (name, target)) k);
  }

pub sound_answer : (rows : RowsValue) → IsTrue (is_sound rows) → TreesAnswer rows
sound_answer rows h = answers rows (facts rows h)
