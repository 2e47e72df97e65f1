-- The keys in the tables of rows are short: each fits into a record.
use Rattle.std.proofs.Common.{◌≡◌, ℕ, zero, suc, ◌<◌, ◌≤◌, ◌&&◌, Bool, true, false, cond, List, [], ◌∷◌, map, length, Option, Some, None, IfSome, is_some, refl, sym, ap, subst, ◌∙◌, arith, length-append, leb-true, true≢false, nat_le, nat_lt}
use Rattle.std.specs.FinMap.{empty, entries, find, from_entries, get, get-empty, get-entries, get-from_entries}
use Rattle.std.specs.List.{AllByRecursion, flat_map, list_all}
use Rattle.std.specs.Cmp.{first_so, second_so}
use Rattle.std.proofs.lemmas.Bool.{lt-leb}
use Rattle.std.proofs.lemmas.List.{length-map}
use Rattle.std.specs.Option.{option_map}
use Rattle.std.specs.Ordering.{eq_by_cmp, nat_cmp}
use Rattle.xod_base.specs.declared.answer.NameKind.{NameKind}
use Rattle.xod_base.specs.declared.answer.NameKind.TheVariants.{Kinds, Props, Links}
use Rattle.xod_base.specs.declared.limits.TheConstants.{LONGEST_NAME, LONGEST_TEXT, MOST_NAMES}
use Rattle.xod_base.specs.declared.value.EntityId.{EntityId}
use Rattle.xod_base.specs.declared.value.Value.{Value}
use Rattle.xod_base.specs.declared.value.Value.TheVariants.{Flag, Int, Text}
use Rattle.xod_base.specs.Rows.{Cell, RowsValue, are_distinct, are_names, has_name_length, is_cell, is_listed, is_name, number_of, text_length}
use Rattle.xod_base.specs.Text.{is_text}
use Rattle.xod_base.specs.Values.{bytes_cmp, folded, folded_byte, is_value, key_of}
use Rattle.xod_base.specs.Views.{Entry, Tree, Trees}
use Rattle.xod_block.specs.Records.{FitsPart, Link}
use Rattle.xod_carry.specs.Carry.{carried, numbered, with_pair}
use Rattle.xod_carry.proofs.CallerLemmas.{bytes_same, bytes_total, each_append, numbers_same, tied_is}
use Rattle.xod_recover.specs.Check.{are_trees}
use Rattle.xod_root.specs.Roots.{Roots}
use Rattle.xod_tables.specs.Keys.{cell_key, entries_at, entity_key, index_entries, join_back_key, join_key, link_key, name_key, next_key, number_key, property_key, u32, u64}
use Rattle.xod_tables.specs.Reading.{rows_of}
use Rattle.xod_tables.specs.Tables.{AreTables, back_tree, by_number, entities_tree, index_tree, links_tree, names_tree, next_tree, numbers_tree, properties_tree}
use Rattle.xod_tables.proofs.CallerLemmas.{Facts, each_of_all, facts, is_some_at, tables_of_rows}
use Rattle.xod_log.specs.declared.log.Log.{Log}
use Rattle.xod_trie.specs.Tries.{trie_map}
use Rattle.xod_trie_mut.specs.Changes.{KeysFit}
use Rattle.xod_volume.specs.Files.{Files}
use Rattle.xod_env.specs.Envs.{ArePlaced, IsAt, env_records, env_trees}

-- ---- lists of entries

abbrev HasShortKey : Entry → Type 0
HasShortKey entry = FitsPart entry.0

abbrev HaveShortKeys : List Entry → Type 0
HaveShortKeys list = AllByRecursion HasShortKey list

found_fits : (key : List ℕ) (list : List Entry) → HaveShortKeys list → is_some (find bytes_cmp key list) ≡ true → FitsPart key
found_fits key [] fit some = absurd (true≢false (sym some))
found_fits key (entry ∷ list) fit some =
    elim (eq_by_cmp bytes_cmp key entry.0) as (λ b. eq_by_cmp bytes_cmp key entry.0 ≡ b → is_some (cond b (Some entry.1) (find bytes_cmp key list)) ≡ true → FitsPart key) [
      | true ↦ λ tied some. subst FitsPart (sym (tied_is bytes_same key entry.0 tied)) fit.0
      | false ↦ λ tied some. found_fits key list fit.1 some
    ] refl some

-- the keys of a map are those of the list that it is made of
list_fits : (list : List Entry) → HaveShortKeys list → KeysFit (from_entries list)
list_fits list fit key some = found_fits key list fit (ap is_some (sym (get-from_entries bytes_total list key)) ∙ some)

pair_fits : (key : Option (List ℕ)) (value : List ℕ) (list : List Entry) → IfSome key FitsPart → HaveShortKeys list → HaveShortKeys (with_pair key value list)
pair_fits None value list fits all = all
pair_fits (Some key) value list fits all = (fits, all)

carried_fits : {K X : Type 0} (key_of : K → Option (List ℕ)) (value_of : X → List ℕ) (list : List (K × X)) → ((key : K) → IfSome (key_of key) FitsPart) → HaveShortKeys (carried key_of value_of list)
carried_fits key_of value_of [] fits = tt
carried_fits key_of value_of (entry ∷ list) fits = pair_fits (key_of entry.0) (value_of entry.1) (carried key_of value_of list) (fits entry.0) (carried_fits key_of value_of list fits)

mapped_fits : {A : Type 0} (f : A → List ℕ) (o : Option A) → ((a : A) → FitsPart (f a)) → IfSome (option_map f o) FitsPart
mapped_fits f None fits = tt
mapped_fits f (Some a) fits = fits a

-- ---- each tree

numbered_fit : (list : NameKind) (names : List (List ℕ)) → HaveShortKeys (by_number list names)
numbered_fit list names = carried_fits (λ number. Some (name_key list number)) (λ name. name) (numbered 0 names) (λ number. omega arith)

named_fit : (list : NameKind) (from : ℕ) (names : List (List ℕ)) → AllByRecursion (λ name. is_name name ≡ true) names
    → HaveShortKeys (map (λ entry. (number_key list entry.1, u32 entry.0)) (numbered from names))
named_fit list from [] fit = tt
named_fit list from (name ∷ names) fit =
    let few : length name ≤ LONGEST_NAME = leb-true (length name) LONGEST_NAME (second_so (nat_lt 0 (length name)) (nat_le (length name) LONGEST_NAME) (first_so (has_name_length name) (is_text name) fit.0)) in
    (omega (arith, few), named_fit list (suc from) names fit.1)

are_short : (names : List (List ℕ)) → are_names names ≡ true → AllByRecursion (λ name. is_name name ≡ true) names
are_short names sound = each_of_all is_name names (second_so (nat_le (length names) MOST_NAMES && are_distinct names) (list_all is_name names) sound)

-- a value's key has at most 1026 bytes
short_value : (value : Value) → text_length value ≤ LONGEST_TEXT → length (key_of value) ≤ 1026
short_value (Flag flag) few = omega arith
short_value (Int number) few = omega arith
short_value (Text text) few =
    let all = length-append (3 ∷ folded text) (0 ∷ []) in
    let same = length-map text folded_byte in
    omega (arith, all, same, few)

given_fit : (id : EntityId) (value : Value) (prop : Option ℕ) → length (key_of value) ≤ 1026 → HaveShortKeys (entries_at id value prop)
given_fit id value None few = tt
given_fit id value (Some prop) few = let all = length-append (key_of value) (u32 id.local) in (omega (arith, all, few), tt)

indexed_fit : (rows : RowsValue) (list : List (Cell × Value)) → AllByRecursion (λ e. is_cell rows e ≡ true) list → HaveShortKeys (flat_map (index_entries rows.props) list)
indexed_fit rows [] sound = tt
indexed_fit rows (e ∷ list) sound =
    let few = leb-true (text_length e.1) LONGEST_TEXT (second_so (is_some (get rows.ids e.0.0) && is_listed rows.props e.0.1 && is_value e.1) (nat_le (text_length e.1) LONGEST_TEXT) sound.0) in
    each_append HasShortKey (index_entries rows.props e) (flat_map (index_entries rows.props) list)
    (given_fit e.0.0 e.1 (number_of rows.props e.0.1) (short_value e.1 few)) (indexed_fit rows list sound.1)

module _ (rows : RowsValue) (f : Facts rows) where
  names_fit : KeysFit (names_tree rows)
  names_fit = list_fits _ (each_append HasShortKey _ _ (numbered_fit Kinds rows.types) (each_append HasShortKey _ _ (numbered_fit Props rows.props) (numbered_fit Links rows.links)))

  numbers_fit : KeysFit (numbers_tree rows)
  numbers_fit = list_fits _
      (each_append HasShortKey _ _ (named_fit Kinds 0 rows.types (are_short rows.types f.types))
      (each_append HasShortKey _ _ (named_fit Props 0 rows.props (are_short rows.props f.props)) (named_fit Links 0 rows.links (are_short rows.links f.links))))

  nexts_fit : KeysFit (next_tree rows)
  nexts_fit = list_fits _ (carried_fits (λ kind. Some (next_key kind)) u64 (numbered 0 rows.nexts) (λ kind. omega arith))

  entities_fit : KeysFit (entities_tree rows)
  entities_fit = list_fits _ (carried_fits (λ id. Some (entity_key id)) (λ _. []) (entries rows.ids) (λ id. omega arith))

  properties_fit : KeysFit (properties_tree rows)
  properties_fit = list_fits _ (carried_fits (cell_key rows.props) _ (entries rows.values) (λ cell. mapped_fits (property_key cell.0) (number_of rows.props cell.1) (λ prop. omega arith)))

  index_fit : KeysFit (index_tree rows)
  index_fit = list_fits _ (indexed_fit rows (entries rows.values) f.cells)

  links_fit : KeysFit (links_tree rows)
  links_fit = list_fits _ (carried_fits (join_key rows.links) (λ _. []) (entries rows.joined) (λ link. mapped_fits (λ number. link_key link.0 number link.1.1) (number_of rows.links link.1.0) (λ number. omega arith)))

  back_fit : KeysFit (back_tree rows)
  back_fit = list_fits _ (carried_fits (join_back_key rows.links) (λ _. []) (entries rows.joined) (λ link. mapped_fits (λ number. link_key link.1.1 number link.0) (number_of rows.links link.1.0) (λ number. omega arith)))

-- ---- all trees

there_fits : (tree : Option Tree) (other : Tree) → tree ≡ Some other → KeysFit other → IfSome tree KeysFit
there_fits tree other is fits = subst (λ (t : Option Tree). IfSome t KeysFit) (sym is) fits

empty_fits : KeysFit empty
empty_fits key some = absurd (true≢false (sym (ap is_some (sym (get-empty bytes_cmp key)) ∙ some)))

-- a tree has no number of a table
abbrev IsNoTable : ℕ → Type 0
IsNoTable tree = (nat_le 1 tree && nat_le tree 8) ≡ false

above_tables : (tree : ℕ) → 8 < tree → IsNoTable tree
above_tables tree more = with_false (nat_le 1 tree) (nat_le tree 8) (lt-leb tree 8 more)
  where
    with_false : (a b : Bool) → b ≡ false → (a && b) ≡ false
    with_false true b is = is
    with_false false b is = refl

tables_fit : (trees : Trees) (rows : RowsValue) → AreTables trees rows → Facts rows → (tree : ℕ) → (IsNoTable tree → trees tree ≡ Some empty) → IfSome (trees tree) KeysFit
tables_fit trees rows are f zero none = there_fits (trees 0) empty (none refl) empty_fits
tables_fit trees rows are f (suc zero) none = there_fits (trees 1) (names_tree rows) are.names (names_fit rows f)
tables_fit trees rows are f (suc (suc zero)) none = there_fits (trees 2) (numbers_tree rows) are.numbers (numbers_fit rows f)
tables_fit trees rows are f (suc (suc (suc zero))) none = there_fits (trees 3) (next_tree rows) are.nexts (nexts_fit rows f)
tables_fit trees rows are f (suc (suc (suc (suc zero)))) none = there_fits (trees 4) (entities_tree rows) are.entities (entities_fit rows f)
tables_fit trees rows are f (suc (suc (suc (suc (suc zero))))) none = there_fits (trees 5) (properties_tree rows) are.properties (properties_fit rows f)
tables_fit trees rows are f (suc (suc (suc (suc (suc (suc zero)))))) none = there_fits (trees 6) (index_tree rows) are.indexed (index_fit rows f)
tables_fit trees rows are f (suc (suc (suc (suc (suc (suc (suc zero))))))) none = there_fits (trees 7) (links_tree rows) are.linked (links_fit rows f)
tables_fit trees rows are f (suc (suc (suc (suc (suc (suc (suc (suc zero)))))))) none = there_fits (trees 8) (back_tree rows) are.linked_back (back_fit rows f)
tables_fit trees rows are f (suc (suc (suc (suc (suc (suc (suc (suc (suc tree))))))))) none =
    there_fits (trees (suc (suc (suc (suc (suc (suc (suc (suc (suc tree)))))))))) empty (none (above_tables (suc (suc (suc (suc (suc (suc (suc (suc (suc tree))))))))) (omega arith))) empty_fits

pub rows_fit : (trees : Trees) → is_some (rows_of trees) ≡ true → (tree : ℕ) → (IsNoTable tree → trees tree ≡ Some empty) → IfSome (trees tree) KeysFit
rows_fit trees some tree none =
    let found = is_some_at (rows_of trees) some in
    let are = tables_of_rows trees found.0 found.1 in
    tables_fit trees found.0 are (facts found.0 are.sound) tree none

-- ---- trees that are not listed

unlisted : (tree : ℕ) → IsNoTable tree → (links : List Link) → are_trees links ≡ true → find nat_cmp tree links ≡ None
unlisted tree none [] listed = refl
unlisted tree none (link ∷ links) listed =
    elim (eq_by_cmp nat_cmp tree link.0) as (λ b. eq_by_cmp nat_cmp tree link.0 ≡ b → cond b (Some link.1) (find nat_cmp tree links) ≡ None) [
      | true ↦ λ tied.
          let here = first_so (nat_le 1 link.0 && nat_le link.0 8) (are_trees links) listed in
          absurd (true≢false (sym here ∙ ap (λ (n : ℕ). nat_le 1 n && nat_le n 8) (sym (tied_is numbers_same tree link.0 tied)) ∙ none))
      | false ↦ λ tied. unlisted tree none links (second_so (nat_le 1 link.0 && nat_le link.0 8) (are_trees links) listed)
    ] refl

no_root : (roots : Roots) → are_trees (entries roots) ≡ true → (tree : ℕ) → IsNoTable tree → get roots tree ≡ None
no_root roots listed tree none = get-entries roots tree ∙ unlisted tree none (entries roots) listed

-- the keys of what an environment has
pub keys_fit : (log : Log) (roots : Roots) (commit : ℕ) (files : Files) (images : Files → Type 0) → IsAt log roots commit files images → ArePlaced log roots
    → (tree : ℕ) → IfSome (env_trees log.file files roots tree) KeysFit
keys_fit log roots commit files images at placed tree =
    rows_fit (env_trees log.file files roots) at.tables tree
    (λ none. ap (trie_map (env_records log.file files)) (no_root roots placed.numbered tree none))
