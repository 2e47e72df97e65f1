-- Trees that pass the tests are the tables of the rows that are read from them.
use Rattle.std.proofs.Common.{◌≡◌, ℕ, ◌≤◌, Bool, true, false, cond, ◌&&◌, List, [], ◌∷◌, map, length, Option, Some, None, refl, sym, ap, ◌∙◌, true≢false, arith, eqb-true, eq-eqb, le-leb}
use Rattle.std.specs.Prelude.{is_some, ◌==◌, nat_le}
use Rattle.std.specs.Option.{unwrap_or}
use Rattle.std.specs.List.{AllByRecursion, list_all}
use Rattle.std.specs.FinMap.{empty, entries, get, len}
use Rattle.xod_base.specs.declared.limits.TheConstants.{MOST_LOCALS}
use Rattle.xod_base.specs.declared.answer.NameKind.{NameKind}
use Rattle.xod_base.specs.declared.answer.NameKind.TheVariants.{Kinds, Props, Links}
use Rattle.xod_base.specs.Rows.{RowsValue, id_cmp, cell_cmp, link_cmp, are_names, is_drawn, is_name, is_cell, is_join, is_sound}
use Rattle.xod_base.specs.Views.{Tree, Trees}
use Rattle.xod_carry.specs.Carry.{carry, numbered}
use Rattle.xod_carry.proofs.CallerLemmas.{each_too}
use Rattle.xod_tables.specs.Keys.{u32, number_key}
use Rattle.xod_tables.specs.Reading.{is_written, cell_in, value_in, id_in, join_in, tree_at}
use Rattle.xod_tables.specs.Tables.{AreTables, names_tree, numbers_tree, next_tree, entities_tree, properties_tree, index_tree, links_tree, back_tree}
use Rattle.xod_tables.specs.declared.trees.TheConstants.{NAMES, NUMBERS, NEXT, ENTITIES, PROPERTIES, INDEX, LINKS, BACK}
use Rattle.xod_tables.proofs.CallerLemmas.{not_none, each_of_all}
use Rattle.xod_audit.specs.Tests.{holds, names_listed, name_count, names_fit, numbers_stand, numbers_fit, nexts_from, nexts_listed, entities_fit, is_entity, properties_fit, is_property_entry, links_fit, is_link_entry, trees_fit, are_there, is_audited}
use Rattle.xod_audit.proofs.General.{parts, all_of_each}
use Rattle.xod_audit.proofs.Names.{AreFew, HaveNumbers, listed_stand, listed_few, distinct, names_are, numbers_are}
use Rattle.xod_audit.proofs.Entities.{nexts_stand, nexts_are, held, entities_are, ids_drawn, is_there}
use Rattle.xod_audit.proofs.Properties.{is_at, four_parts, properties_are, cells_stand, index_is}
use Rattle.xod_audit.proofs.Links.{links_are, joins_stand, back_is_theirs}

five_parts : (a b c d e : Bool) → (a && b && c && d && e) ≡ true → (a ≡ true) × (b ≡ true) × (c ≡ true) × (d ≡ true) × (e ≡ true)
five_parts true true true true e h = (refl, refl, refl, refl, h)
five_parts false b c d e h = absurd (true≢false (sym h))
five_parts true false c d e h = absurd (true≢false (sym h))
five_parts true true false d e h = absurd (true≢false (sym h))
five_parts true true true false e h = absurd (true≢false (sym h))

eight_parts : (a b c d e f g h : Bool) → (a && b && c && d && e && f && g && h) ≡ true → (a ≡ true) × (b ≡ true) × (c ≡ true) × (d ≡ true) × (e ≡ true) × (f ≡ true) × (g ≡ true) × (h ≡ true)
eight_parts true true true true true true true h all = (refl, refl, refl, refl, refl, refl, refl, all)
eight_parts false b c d e f g h all = absurd (true≢false (sym all))
eight_parts true false c d e f g h all = absurd (true≢false (sym all))
eight_parts true true false d e f g h all = absurd (true≢false (sym all))
eight_parts true true true false e f g h all = absurd (true≢false (sym all))
eight_parts true true true true false f g h all = absurd (true≢false (sym all))
eight_parts true true true true true false g h all = absurd (true≢false (sym all))
eight_parts true true true true true true false h all = absurd (true≢false (sym all))

there : (o : Option Tree) → is_some o ≡ true → o ≡ Some (unwrap_or o empty)
there None h = absurd (true≢false (sym h))
there (Some t) h = refl

nexts_both : (b : Bool) (o : Option (List ℕ)) (xs : List ℕ) → cond b o None ≡ Some xs → (b ≡ true) × (o ≡ Some xs)
nexts_both true o xs e = (refl, e)
nexts_both false o xs e = absurd (not_none xs (sym e))

have_numbers : (t : Tree) (list : NameKind) (names : List (List ℕ)) → numbers_stand t list names ≡ true → HaveNumbers t list 0 names
have_numbers t list names h = each_too (λ e is. is_at (get t (number_key list e.1)) (u32 e.0) is) (numbered 0 names)
    (each_of_all (λ e. is_written (get t (number_key list e.1)) (u32 e.0)) (numbered 0 names) h)

names_sound : (t numbers : Tree) (list : NameKind) → list_all is_name (names_listed list t) ≡ true → HaveNumbers numbers list 0 (names_listed list t) → are_names (names_listed list t) ≡ true
names_sound t numbers list h own =
    let few = listed_few t list 4096 0 in
    let apart = distinct numbers list 0 (names_listed list t) (omega (arith, few)) own in
    λ i. le-leb (length (names_listed list t)) 4096 few i && apart i && h i

all_keys : {K X : Type 0} (p : K → Bool) (es : List (K × X)) → AllByRecursion (λ e. p e.0 ≡ true) es → list_all p (map (λ e. e.0) es) ≡ true
all_keys p [] h = refl
all_keys p (e ∷ es) h = λ i. h.0 i && all_keys p es h.1 i

-- the rows that are read from trees
abbrev pub rows_read : Tree → List ℕ → Tree → Tree → Tree → RowsValue
rows_read names nexts entities properties links = record {
  types = names_listed Kinds names;
  props = names_listed Props names;
  links = names_listed Links names;
  nexts = nexts;
  ids = carry id_in (λ _. tt) id_cmp entities;
  values = carry (cell_in (names_listed Props names)) value_in cell_cmp properties;
  joined = carry (join_in (names_listed Links names)) (λ _. tt) link_cmp links;
}

-- eight trees are those of rows
pub record AreTrees (rows : RowsValue) (names numbers nexts entities properties index links back : Tree) : Type 0 where
  pub sound : is_sound rows ≡ true
  pub names_are : names ≡ names_tree rows
  pub numbers_are : numbers ≡ numbers_tree rows
  pub nexts_are : nexts ≡ next_tree rows
  pub entities_are : entities ≡ entities_tree rows
  pub properties_are : properties ≡ properties_tree rows
  pub index_is : index ≡ index_tree rows
  pub links_are : links ≡ links_tree rows
  pub back_is : back ≡ back_tree rows

module _ (names numbers nexts entities properties index links back : Tree) (h : trees_fit names numbers nexts entities properties index links back ≡ true) where
  abbrev kinds_names : List (List ℕ)
  kinds_names = names_listed Kinds names

  abbrev props_names : List (List ℕ)
  props_names = names_listed Props names

  abbrev links_names : List (List ℕ)
  links_names = names_listed Links names

  all : (names_fit names ≡ true) × (numbers_fit names numbers ≡ true) × (holds (entities_fit entities) (nexts_listed names nexts) ≡ true)
      × (properties_fit (length props_names) entities properties index ≡ true) × (links_fit (length links_names) entities links back ≡ true)
  all = five_parts (names_fit names) (numbers_fit names numbers) (holds (entities_fit entities) (nexts_listed names nexts))
      (properties_fit (length props_names) entities properties index) (links_fit (length links_names) entities links back) h

  pub fit_are_trees : (next : List ℕ) × AreTrees (rows_read names next entities properties links) names numbers nexts entities properties index links back
  fit_are_trees =
      let named = four_parts (list_all is_name kinds_names) (list_all is_name props_names) (list_all is_name links_names) (len names == name_count names) all.0 in
      let numbered_all = four_parts (numbers_stand numbers Kinds kinds_names) (numbers_stand numbers Props props_names) (numbers_stand numbers Links links_names) (len numbers == name_count names) all.1 in
      let known = held (entities_fit entities) (nexts_listed names nexts) all.2 in
      let next = known.0 in
      let rows = rows_read names next entities properties links in
      let listed = nexts_both (len nexts == length kinds_names) (nexts_from nexts (length kinds_names) 0) next known.1 in
      let low = nexts_stand nexts (length kinds_names) 0 next listed.1 in
      let few : AreFew rows = record { types = listed_few names Kinds 4096 0; props = listed_few names Props 4096 0; links = listed_few names Links 4096 0 } in
      let kinds_numbers = have_numbers numbers Kinds kinds_names numbered_all.0 in
      let props_numbers = have_numbers numbers Props props_names numbered_all.1 in
      let links_numbers = have_numbers numbers Links links_names numbered_all.2 in
      let types_few = few.types in
      let props_few = few.props in
      let links_few = few.links in
      let many = low.as_many in
      let props_apart = distinct numbers Props 0 props_names (omega (arith, props_few)) props_numbers in
      let links_apart = distinct numbers Links 0 links_names (omega (arith, links_few)) links_numbers in
      let short : length next ≤ 4096 = omega (arith, types_few, many) in
      let each_id = each_of_all (is_entity next) (entries entities) known.2 in
      let are_there = is_there next short low.low entities each_id in
      let cells = parts (list_all (is_property_entry (length props_names) entities index) (entries properties)) (len index == len properties) all.3 in
      let each_cell = each_of_all (is_property_entry (length props_names) entities index) (entries properties) cells.0 in
      let joins = parts (list_all (is_link_entry (length links_names) entities back) (entries links)) (len back == len links) all.4 in
      let each_link = each_of_all (is_link_entry (length links_names) entities back) (entries links) joins.0 in
      let cells_fit = each_too (λ e s. λ i. s.there i && is_some (s.keyed.name.is i) && s.value i && s.long i) (entries rows.values)
      (cells_stand props_names props_apart props_few entities index rows.ids are_there properties each_cell) in
      let joins_fit = each_too (λ e s. λ i. s.source i && s.target i && is_some (s.keyed.name.is i)) (entries rows.joined)
      (joins_stand links_names links_apart links_few entities back rows.ids are_there links each_link) in (
        next,
        record {
          sound = λ i. names_sound names numbers Kinds named.0 kinds_numbers i && names_sound names numbers Props named.1 props_numbers i && names_sound names numbers Links named.2 links_numbers i
              && eq-eqb (length next) (length kinds_names) many i && all_of_each (λ n. nat_le n MOST_LOCALS) next low.low i
              && all_of_each (λ e. is_drawn next e.0) (entries rows.ids) (ids_drawn next short low.low entities each_id) i
              && all_of_each (is_cell rows) (entries rows.values) cells_fit i
              && all_keys (is_join rows) (entries rows.joined) joins_fit i;
          names_are = names_are rows few names (record { types = listed_stand names Kinds 4096 0; props = listed_stand names Props 4096 0; links = listed_stand names Links 4096 0 }) (eqb-true (len names) (name_count names) named.3);
          numbers_are = numbers_are rows few numbers (record { types = kinds_numbers; props = props_numbers; links = links_numbers }) (eqb-true (len numbers) (name_count names) numbered_all.3);
          nexts_are = nexts_are rows short nexts low.stand (eqb-true (len nexts) (length kinds_names) listed.0 ∙ sym many);
          entities_are = entities_are next short low.low entities each_id;
          properties_are = properties_are props_names props_apart props_few entities index rows.ids are_there properties each_cell;
          index_is = index_is props_names props_apart props_few entities index rows.ids are_there properties each_cell (eqb-true (len index) (len properties) cells.1);
          links_are = links_are links_names links_apart links_few entities back rows.ids are_there links each_link;
          back_is = back_is_theirs links_names links_apart links_few entities back rows.ids are_there links each_link (eqb-true (len back) (len links) joins.1);
        },
      )

-- trees that are audited are the tables of rows with the types that are listed
pub audited_are_tables : (trees : Trees) → is_audited trees ≡ true → (rows : RowsValue) × AreTables trees rows × (rows.types ≡ names_listed Kinds (tree_at trees NAMES))
audited_are_tables trees h =
    let both = parts (are_there trees) (trees_fit (tree_at trees NAMES) (tree_at trees NUMBERS) (tree_at trees NEXT) (tree_at trees ENTITIES) (tree_at trees PROPERTIES) (tree_at trees INDEX) (tree_at trees LINKS) (tree_at trees BACK)) h in
    let all_there = eight_parts (is_some (trees NAMES)) (is_some (trees NUMBERS)) (is_some (trees NEXT)) (is_some (trees ENTITIES)) (is_some (trees PROPERTIES)) (is_some (trees INDEX)) (is_some (trees LINKS)) (is_some (trees BACK)) both.0 in
    let found = fit_are_trees (tree_at trees NAMES) (tree_at trees NUMBERS) (tree_at trees NEXT) (tree_at trees ENTITIES) (tree_at trees PROPERTIES) (tree_at trees INDEX) (tree_at trees LINKS) (tree_at trees BACK) both.1 in
    let are = found.1 in (
      rows_read (tree_at trees NAMES) found.0 (tree_at trees ENTITIES) (tree_at trees PROPERTIES) (tree_at trees LINKS),
      record {
        sound = are.sound;
        names = there (trees NAMES) all_there.0 ∙ ap Some are.names_are;
        numbers = there (trees NUMBERS) all_there.1 ∙ ap Some are.numbers_are;
        nexts = there (trees NEXT) all_there.2 ∙ ap Some are.nexts_are;
        entities = there (trees ENTITIES) all_there.3 ∙ ap Some are.entities_are;
        properties = there (trees PROPERTIES) all_there.4 ∙ ap Some are.properties_are;
        indexed = there (trees INDEX) all_there.5 ∙ ap Some are.index_is;
        linked = there (trees LINKS) all_there.6 ∙ ap Some are.links_are;
        linked_back = there (trees BACK) all_there.7 ∙ ap Some are.back_is;
      },
      refl,
    )
