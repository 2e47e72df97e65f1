-- The tables of rows pass the tests.
use Rattle.std.proofs.Common.{◌≡◌, ℕ, ◌+◌, ◌≤◌, Bool, true, false, cond, ◌&&◌, List, [], ◌∷◌, length, Option, Some, None, refl, sym, ap, subst, ◌∙◌, true≢false, arith, eq-eqb, lt-ltb}
use Rattle.std.specs.Prelude.{is_some, ◌==◌, nat_le}
use Rattle.std.specs.Option.{option_map, unwrap_or}
use Rattle.std.specs.List.{AllByRecursion, list_all}
use Rattle.std.specs.FinMap.{empty, from_entries, entries, get, len}
use Rattle.xod_base.specs.declared.limits.TheConstants.{MOST_NAMES, LONGEST_TEXT}
use Rattle.xod_base.specs.declared.value.Value.{Value}
use Rattle.xod_base.specs.declared.answer.NameKind.{NameKind}
use Rattle.xod_base.specs.declared.answer.NameKind.TheVariants.{Kinds, Props, Links}
use Rattle.xod_base.specs.Rows.{RowsValue, Cell, LinkKey, are_names, are_distinct, text_length, is_listed, is_name, is_cell, is_join}
use Rattle.xod_base.specs.Values.{bytes_cmp, is_value, key_of}
use Rattle.xod_base.specs.Views.{Trees}
use Rattle.xod_carry.specs.Carry.{carried, numbered}
use Rattle.xod_carry.specs.Laws.{AreApart}
use Rattle.xod_carry.proofs.CallerLemmas.{bytes_total, bytes_same, each_too, carried_apart, entries_apart}
use Rattle.xod_tables.specs.Keys.{u32, number_key, name_key, next_key, property_key, index_key, link_key, back_key, cell_key, join_key, stored}
use Rattle.xod_tables.specs.LookUps.{TreesAnswer, names_of}
use Rattle.xod_tables.specs.Reading.{is_written, cell_in, join_in, tree_at}
use Rattle.xod_tables.specs.Tables.{AreTables, names_tree, numbers_tree, next_tree, entities_tree, properties_tree, index_tree, links_tree, back_tree}
use Rattle.xod_tables.specs.declared.trees.TheConstants.{NAMES}
use Rattle.xod_tables.proofs.CallerLemmas.{Facts, facts, short, name_of_number, CellFits, cells_fit, LinkFits, links_fit as joins_fit, same_some, cell_total, link_total, cell_read, join_read, HasKey, cell_keys, key_is, HasLinkKey, link_keys, out_is, ids_short, sound_answer}
use Rattle.xod_keys.specs.Pieces.{value_read}
use Rattle.xod_audit.specs.Tests.{holds, names_listed, name_count, names_fit, numbers_stand, numbers_fit, nexts_from, nexts_listed, entities_fit, is_entity, is_property, properties_fit, is_property_entry, link_in, is_link, links_fit, is_link_entry, trees_fit, is_audited}
use Rattle.xod_audit.proofs.General.{and_so, all_of_each, len_apart, each_from, each_image, images_length}
use Rattle.xod_audit.proofs.Names.{AreFew, HaveNumbers, NumbersStand, listed_is, numbered_each, place, name_total, names_len, numbers_len}
use Rattle.xod_audit.proofs.Entities.{nexts_is, nexts_len, entities_pass}
use Rattle.xod_audit.proofs.Properties.{at_is, four_parts, prop_read, value_comes, index_stands, index_len}
use Rattle.xod_audit.proofs.Links.{link_read, back_len, back_stands}

-- ---- names

second : (a b : Bool) → (a && b) ≡ true → b ≡ true
second true b e = e
second false b e = absurd (true≢false (sym e))

three : (a b c : Bool) → (a && b && c) ≡ true → (b ≡ true) × (c ≡ true)
three true true c e = (refl, e)
three false b c e = absurd (true≢false (sym e))
three true false c e = absurd (true≢false (sym e))

distinct_of : (names : List (List ℕ)) → are_names names ≡ true → are_distinct names ≡ true
distinct_of names h = let t = three (nat_le (length names) MOST_NAMES) (are_distinct names) (list_all is_name names) h in t.0

names_of_all : (names : List (List ℕ)) → are_names names ≡ true → list_all is_name names ≡ true
names_of_all names h = let t = three (nat_le (length names) MOST_NAMES) (are_distinct names) (list_all is_name names) h in t.1

some_too : {A B : Type 0} (g : A → B) (o : Option A) → is_some (option_map g o) ≡ is_some o
some_too g None = refl
some_too g (Some x) = refl

each_three : {A : Type 0} {P Q W V : A → Type 0} → ((x : A) → P x → Q x → W x → V x) → (xs : List A) → AllByRecursion P xs → AllByRecursion Q xs → AllByRecursion W xs → AllByRecursion V xs
each_three all [] p q w = tt
each_three all (x ∷ xs) p q w = (all x p.0 q.0 w.0, each_three all xs p.1 q.1 w.1)

-- the map of a list whose keys come back has as many entries
carried_len : {K X : Type 0} (f : K → Option (List ℕ)) (g : X → List ℕ) (b : List ℕ → Option K) (es : List (K × X)) → AreApart es
    → AllByRecursion (λ e. (l : List ℕ) → f e.0 ≡ Some l → b l ≡ Some e.0) es → AllByRecursion (λ e. is_some (f e.0) ≡ true) es
    → len (from_entries {R = bytes_cmp} (carried f g es)) ≡ length es
carried_len f g b es apart back some = len_apart bytes_total bytes_same (carried f g es) (carried_apart f g b es apart back) ∙ images_length f g es some

module _ (rows : RowsValue) (f : Facts rows) (a : TreesAnswer rows) where
  few : AreFew rows
  few = record { types = short rows.types f.types; props = short rows.props f.props; links = short rows.links f.links }

  listed_back : (list : NameKind) → length (names_of rows list) ≤ 4096 → names_listed list (names_tree rows) ≡ names_of rows list
  listed_back list small = listed_is (names_tree rows) list 4096 0 (names_of rows list) small (omega arith)
      (λ j h. let is : 0 + j ≡ j = omega arith in ap (λ n. get (names_tree rows) (name_key list n)) is ∙ a.names list j (omega (arith, h)))

  pub types_are : names_listed Kinds (names_tree rows) ≡ rows.types
  types_are = listed_back Kinds few.types

  props_are : names_listed Props (names_tree rows) ≡ rows.props
  props_are = listed_back Props few.props

  links_are : names_listed Links (names_tree rows) ≡ rows.links
  links_are = listed_back Links few.links

  count_is : name_count (names_tree rows) ≡ name_total rows
  count_is = λ i. length (types_are i) + (length (props_are i) + length (links_are i))

  names_pass : names_fit (names_tree rows) ≡ true
  names_pass = λ i. (ap (list_all is_name) types_are ∙ names_of_all rows.types f.types) i
      && (ap (list_all is_name) props_are ∙ names_of_all rows.props f.props) i
      && (ap (list_all is_name) links_are ∙ names_of_all rows.links f.links) i
      && eq-eqb (len (names_tree rows)) (name_count (names_tree rows)) (names_len rows few ∙ sym count_is) i

  have_numbers : (list : NameKind) → are_names (names_of rows list) ≡ true → HaveNumbers (numbers_tree rows) list 0 (names_of rows list)
  have_numbers list h = numbered_each (λ e. get (numbers_tree rows) (number_key list e.1) ≡ Some (u32 e.0)) 0 (names_of rows list)
      (λ j x is. let zero_and : j ≡ 0 + j = omega arith in
      a.numbers list x ∙ ap (option_map u32) (place (names_of rows list) (distinct_of (names_of rows list) h) j x is) ∙ ap (λ n. Some (u32 n)) zero_and)

  numbers_all : NumbersStand (numbers_tree rows) rows
  numbers_all = record { types = have_numbers Kinds f.types; props = have_numbers Props f.props; links = have_numbers Links f.links }

  numbers_hold : (list : NameKind) (names : List (List ℕ)) → HaveNumbers (numbers_tree rows) list 0 names → numbers_stand (numbers_tree rows) list names ≡ true
  numbers_hold list names h = all_of_each (λ e. is_written (get (numbers_tree rows) (number_key list e.1)) (u32 e.0)) (numbered 0 names)
      (each_too (λ e is. at_is (get (numbers_tree rows) (number_key list e.1)) (u32 e.0) is) (numbered 0 names) h)

  numbers_pass : numbers_fit (names_tree rows) (numbers_tree rows) ≡ true
  numbers_pass = λ i. (ap (numbers_stand (numbers_tree rows) Kinds) types_are ∙ numbers_hold Kinds rows.types numbers_all.types) i
      && (ap (numbers_stand (numbers_tree rows) Props) props_are ∙ numbers_hold Props rows.props numbers_all.props) i
      && (ap (numbers_stand (numbers_tree rows) Links) links_are ∙ numbers_hold Links rows.links numbers_all.links) i
      && eq-eqb (len (numbers_tree rows)) (name_count (names_tree rows)) (numbers_len rows few (numbers_tree rows) numbers_all ∙ sym count_is) i

  -- ---- next numbers and entities
  nexts_few : length rows.nexts ≤ 4096
  nexts_few = let small = few.types in let many = f.as_many in omega (arith, small, many)

  nexts_are : nexts_listed (names_tree rows) (next_tree rows) ≡ Some rows.nexts
  nexts_are =
      let small = few.types in
      ap (λ l. cond (len (next_tree rows) == length l) (nexts_from (next_tree rows) (length l) 0) None) types_are
      ∙ ap (λ b. cond b (nexts_from (next_tree rows) (length rows.types) 0) None) (eq-eqb (len (next_tree rows)) (length rows.types) (nexts_len rows nexts_few ∙ f.as_many))
      ∙ nexts_is (next_tree rows) (length rows.types) 0 rows.nexts f.as_many (omega (arith, small)) f.nexts
      (λ j h. let is : 0 + j ≡ j = omega arith in ap (λ n. get (next_tree rows) (next_key n)) is ∙ a.nexts j (omega (arith, h)))

  entities_all : holds (entities_fit (entities_tree rows)) (nexts_listed (names_tree rows) (next_tree rows)) ≡ true
  entities_all = ap (holds (entities_fit (entities_tree rows))) nexts_are
      ∙ all_of_each (is_entity rows.nexts) (entries (entities_tree rows)) (entities_pass rows f.ids (ids_short rows f))

  -- ---- properties
  cell_passes : (e : Cell × Value) → is_cell rows e ≡ true → CellFits rows e
      → ((k : HasKey rows.props e.0) → get (index_tree rows) (index_key e.0.0 k.name.number (key_of e.1)) ≡ Some [])
      → (l : List ℕ) → cell_key rows.props e.0 ≡ Some l → is_property_entry (length rows.props) (entities_tree rows) (index_tree rows) (l, stored e.1) ≡ true
  cell_passes e h c indexed l is =
      let t = four_parts (is_some (get rows.ids e.0.0)) (is_listed rows.props e.0.1) (is_value e.1) (nat_le (text_length e.1) LONGEST_TEXT) h in
      let k : HasKey rows.props e.0 = record { id = c.id; name = c.name } in
      let key : l ≡ property_key e.0.0 c.name.number = same_some l (property_key e.0.0 c.name.number) (sym is ∙ key_is rows.props e.0 k) in
      let within = name_of_number rows.props e.0.1 c.name.number c.name.is in
      ap (λ q. is_property_entry (length rows.props) (entities_tree rows) (index_tree rows) (q, stored e.1)) key
      ∙ ap (holds (λ prop. holds (is_property (length rows.props) (entities_tree rows) (index_tree rows) prop) (value_read (stored e.1)))) (prop_read e.0.0 c.name.number c.id c.name.small)
      ∙ ap (holds (is_property (length rows.props) (entities_tree rows) (index_tree rows) (e.0.0, c.name.number))) (value_comes e.1 c.value)
      ∙ (λ i. lt-ltb c.name.number (length rows.props) within.1 i
      && (ap is_some (a.entities e.0.0 c.id) ∙ some_too {B = List ℕ} (λ _. []) (get rows.ids e.0.0) ∙ t.0) i
      && t.3 i
      && at_is (get (index_tree rows) (index_key e.0.0 c.name.number (key_of e.1))) [] (indexed k) i)

  cells_pass : properties_fit (length (names_listed Props (names_tree rows))) (entities_tree rows) (properties_tree rows) (index_tree rows) ≡ true
  cells_pass =
      let keys = cell_keys rows f in
      let tests = each_three cell_passes (entries rows.values) f.cells (cells_fit rows f) (index_stands rows keys) in
      let long : len (properties_tree rows) ≡ length (entries rows.values) = carried_len (cell_key rows.props) stored (cell_in rows.props) (entries rows.values) (entries_apart cell_total rows.values)
      (each_too (λ e k l is. subst (λ q. cell_in rows.props q ≡ Some e.0) (same_some (property_key e.0.0 k.name.number) l (sym (key_is rows.props e.0 k) ∙ is)) (cell_read rows.props e.0.0 e.0.1 k.name k.id)) (entries rows.values) keys)
      (each_too (λ e k. ap is_some (key_is rows.props e.0 k)) (entries rows.values) keys) in
      ap (λ l. properties_fit (length l) (entities_tree rows) (properties_tree rows) (index_tree rows)) props_are
      ∙ (λ i. all_of_each (is_property_entry (length rows.props) (entities_tree rows) (index_tree rows)) (entries (properties_tree rows))
      (each_from bytes_total bytes_same (λ e. is_property_entry (length rows.props) (entities_tree rows) (index_tree rows) e ≡ true) (carried (cell_key rows.props) stored (entries rows.values))
      (each_image (cell_key rows.props) stored (λ e. is_property_entry (length rows.props) (entities_tree rows) (index_tree rows) e ≡ true) (entries rows.values) tests)) i
      && eq-eqb (len (index_tree rows)) (len (properties_tree rows)) (index_len rows keys ∙ sym long) i)

  -- ---- links
  link_passes : (link : LinkKey) → is_join rows link ≡ true → LinkFits rows link
      → ((k : HasLinkKey rows.links link) → get (back_tree rows) (back_key link.0 k.name.number link.1.1) ≡ Some [])
      → (l : List ℕ) → join_key rows.links link ≡ Some l → is_link_entry (length rows.links) (entities_tree rows) (back_tree rows) (l, []) ≡ true
  link_passes link h c turned l is =
      let t = four_parts true (is_some (get rows.ids link.0)) (is_some (get rows.ids link.1.1)) (is_listed rows.links link.1.0) h in
      let k : HasLinkKey rows.links link = record { source = c.source; name = c.name; target = c.target } in
      let key : l ≡ link_key link.0 c.name.number link.1.1 = same_some l (link_key link.0 c.name.number link.1.1) (sym is ∙ out_is rows.links link k) in
      let within = name_of_number rows.links link.1.0 c.name.number c.name.is in
      ap (λ q. is_link_entry (length rows.links) (entities_tree rows) (back_tree rows) (q, [])) key
      ∙ and_so (holds (is_link (length rows.links) (entities_tree rows) (back_tree rows)) (link_in (link_key link.0 c.name.number link.1.1))) true
      (ap (holds (is_link (length rows.links) (entities_tree rows) (back_tree rows))) (link_read link.0 c.name.number link.1.1 c.source c.name.small c.target)
      ∙ (λ i. lt-ltb c.name.number (length rows.links) within.1 i
      && (ap is_some (a.entities link.0 c.source) ∙ some_too {B = List ℕ} (λ _. []) (get rows.ids link.0) ∙ t.1) i
      && (ap is_some (a.entities link.1.1 c.target) ∙ some_too {B = List ℕ} (λ _. []) (get rows.ids link.1.1) ∙ t.2) i
      && at_is (get (back_tree rows) (back_key link.0 c.name.number link.1.1)) [] (turned k) i)) refl

  joins_pass : links_fit (length (names_listed Links (names_tree rows))) (entities_tree rows) (links_tree rows) (back_tree rows) ≡ true
  joins_pass =
      let keys = link_keys rows f in
      let tests = each_three (λ e h c turned. link_passes e.0 h c turned) (entries rows.joined) f.joins (joins_fit rows f) (back_stands rows.links rows.joined keys) in
      let long : len (links_tree rows) ≡ length (entries rows.joined) = carried_len (join_key rows.links) (λ _. []) (join_in rows.links) (entries rows.joined) (entries_apart link_total rows.joined)
      (each_too (λ e k l is. subst (λ q. join_in rows.links q ≡ Some e.0) (same_some (link_key e.0.0 k.name.number e.0.1.1) l (sym (out_is rows.links e.0 k) ∙ is)) (join_read rows.links e.0.0 e.0.1.1 e.0.1.0 k.name k.source k.target)) (entries rows.joined) keys)
      (each_too (λ e k. ap is_some (out_is rows.links e.0 k)) (entries rows.joined) keys) in
      ap (λ l. links_fit (length l) (entities_tree rows) (links_tree rows) (back_tree rows)) links_are
      ∙ (λ i. all_of_each (is_link_entry (length rows.links) (entities_tree rows) (back_tree rows)) (entries (links_tree rows))
      (each_from bytes_total bytes_same (λ e. is_link_entry (length rows.links) (entities_tree rows) (back_tree rows) e ≡ true) (carried (join_key rows.links) (λ _. []) (entries rows.joined))
      (each_image (join_key rows.links) (λ _. []) (λ e. is_link_entry (length rows.links) (entities_tree rows) (back_tree rows) e ≡ true) (entries rows.joined) tests)) i
      && eq-eqb (len (back_tree rows)) (len (links_tree rows)) (back_len rows.links rows.joined keys ∙ sym long) i)

  pub trees_pass : trees_fit (names_tree rows) (numbers_tree rows) (next_tree rows) (entities_tree rows) (properties_tree rows) (index_tree rows) (links_tree rows) (back_tree rows) ≡ true
  trees_pass = λ i. names_pass i && numbers_pass i && entities_all i && cells_pass i && joins_pass i

-- the tables of rows are audited, and the types are those that are listed
pub tables_are_audited : (trees : Trees) (rows : RowsValue) → AreTables trees rows → (is_audited trees ≡ true) × (names_listed Kinds (tree_at trees NAMES) ≡ rows.types)
tables_are_audited trees rows h =
    let f = facts rows h.sound in
    let a = sound_answer rows h.sound in (
      (λ i. (is_some (h.names i) && is_some (h.numbers i) && is_some (h.nexts i) && is_some (h.entities i) && is_some (h.properties i) && is_some (h.indexed i) && is_some (h.linked i) && is_some (h.linked_back i))
          && trees_fit (unwrap_or (h.names i) empty) (unwrap_or (h.numbers i) empty) (unwrap_or (h.nexts i) empty) (unwrap_or (h.entities i) empty) (unwrap_or (h.properties i) empty) (unwrap_or (h.indexed i) empty) (unwrap_or (h.linked i) empty) (unwrap_or (h.linked_back i) empty))
          ∙ trees_pass rows f a,
      ap (λ o. names_listed Kinds (unwrap_or o empty)) h.names ∙ types_are rows f a,
    )
