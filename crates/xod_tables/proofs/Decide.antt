-- Trees are the tables of rows exactly where these are the rows that are read from them.
use Rattle.std.proofs.Common.{◌≡◌, Bool, true, false, cond, ◌&&◌, Option, Some, None, refl, sym, ap, subst, ◌∙◌, true≢false}
use Rattle.std.specs.Prelude.{nat_eq, IsTrue}
use Rattle.std.specs.Cmp.Lexicographic.{pointwise, pointwise_decides, bytes_decides}
use Rattle.std.specs.FinMap.{entries, same_entries_map}
use Rattle.xod_base.specs.Rows.{RowsValue, is_sound}
use Rattle.xod_base.specs.Views.{Entry, Tree, Trees}
use Rattle.xod_tables.specs.Tables.{AreTables, names_tree, numbers_tree, next_tree, entities_tree, properties_tree, index_tree, links_tree, back_tree, trees_of}
use Rattle.xod_tables.specs.Reading.{candidate, same_entry, is_tree, are_tables, rows_of}
use Rattle.xod_tables.specs.declared.trees.TheConstants.{NAMES, NUMBERS, NEXT, ENTITIES, PROPERTIES, INDEX, LINKS, BACK}
use Rattle.xod_tables.proofs.Back.{candidate_is}
use Rattle.xod_tables.proofs.Written.{same_some, not_none}

two : (a b : Bool) → (a && b) ≡ true → (a ≡ true) × (b ≡ true)
two true b h = (refl, h)
two false b h = absurd (true≢false (sym h))

entry_decides : (x y : Entry) → (same_entry x y ≡ true → x ≡ y) × (x ≡ y → same_entry x y ≡ true)
entry_decides x y = (
  λ h. let both = two (pointwise nat_eq x.0 y.0) (pointwise nat_eq x.1 y.1) h in λ i. ((bytes_decides x.0 y.0).0 both.0 i, (bytes_decides x.1 y.1).0 both.1 i),
  λ e. λ i. (bytes_decides x.0 y.0).1 (ap (λ p. p.0) e) i && (bytes_decides x.1 y.1).1 (ap (λ p. p.1) e) i,
)

tree_is : (t : Option Tree) (s : Tree) → is_tree t s ≡ true → t ≡ Some s
tree_is None s h = absurd (true≢false (sym h))
tree_is (Some t) s h = ap Some (same_entries_map t s ((pointwise_decides entry_decides (entries t) (entries s)).0 h))

is_the_tree : (t : Option Tree) (s : Tree) → t ≡ Some s → is_tree t s ≡ true
is_the_tree t s e = ap (λ o. is_tree o s) e ∙ (pointwise_decides entry_decides (entries s) (entries s)).1 refl

nine : (a b c d e f g h j : Bool) → (a && b && c && d && e && f && g && h && j) ≡ true → (a ≡ true) × (b ≡ true) × (c ≡ true) × (d ≡ true) × (e ≡ true) × (f ≡ true) × (g ≡ true) × (h ≡ true) × (j ≡ true)
nine true true true true true true true true j all = (refl, refl, refl, refl, refl, refl, refl, refl, all)
nine false b c d e f g h j all = absurd (true≢false (sym all))
nine true false c d e f g h j all = absurd (true≢false (sym all))
nine true true false d e f g h j all = absurd (true≢false (sym all))
nine true true true false e f g h j all = absurd (true≢false (sym all))
nine true true true true false f g h j all = absurd (true≢false (sym all))
nine true true true true true false g h j all = absurd (true≢false (sym all))
nine true true true true true true false h j all = absurd (true≢false (sym all))
nine true true true true true true true false j all = absurd (true≢false (sym all))

pub tested : (trees : Trees) (rows : RowsValue) → are_tables trees rows ≡ true → AreTables trees rows
tested trees rows h =
    let all = nine (is_sound rows) (is_tree (trees NAMES) (names_tree rows)) (is_tree (trees NUMBERS) (numbers_tree rows)) (is_tree (trees NEXT) (next_tree rows)) (is_tree (trees ENTITIES) (entities_tree rows))
    (is_tree (trees PROPERTIES) (properties_tree rows)) (is_tree (trees INDEX) (index_tree rows)) (is_tree (trees LINKS) (links_tree rows)) (is_tree (trees BACK) (back_tree rows)) h in
    record {
      sound = all.0;
      names = tree_is _ _ all.1;
      numbers = tree_is _ _ all.2;
      nexts = tree_is _ _ all.3;
      entities = tree_is _ _ all.4;
      properties = tree_is _ _ all.5;
      indexed = tree_is _ _ all.6;
      linked = tree_is _ _ all.7;
      linked_back = tree_is _ _ all.8;
    }

pub passes : (trees : Trees) (rows : RowsValue) → AreTables trees rows → are_tables trees rows ≡ true
passes trees rows h = λ i. h.sound i && is_the_tree _ _ h.names i && is_the_tree _ _ h.numbers i && is_the_tree _ _ h.nexts i && is_the_tree _ _ h.entities i
    && is_the_tree _ _ h.properties i && is_the_tree _ _ h.indexed i && is_the_tree _ _ h.linked i && is_the_tree _ _ h.linked_back i

pub rows_of_tables : (trees : Trees) (rows : RowsValue) → AreTables trees rows → rows_of trees ≡ Some rows
unfolding rows_of
rows_of_tables trees rows h =
    let is = candidate_is trees rows h in
    ap (λ b. cond b (Some (candidate trees)) None) (passes trees (candidate trees) (subst (AreTables trees) (sym is) h)) ∙ ap Some is

pub tables_of_rows : (trees : Trees) (rows : RowsValue) → rows_of trees ≡ Some rows → AreTables trees rows
unfolding rows_of
tables_of_rows trees rows e =
    elim (are_tables trees (candidate trees)) as (λ b. are_tables trees (candidate trees) ≡ b → cond b (Some (candidate trees)) None ≡ Some rows → AreTables trees rows) [
      | true ↦ λ h is. subst (AreTables trees) (same_some (candidate trees) rows is) (tested trees (candidate trees) h)
      | false ↦ λ h is. absurd (not_none rows (sym is))
    ] refl e

pub one_rows : (trees : Trees) (rows other : RowsValue) → AreTables trees rows → AreTables trees other → rows ≡ other
one_rows trees rows other g h = sym (candidate_is trees rows g) ∙ candidate_is trees other h

-- sound rows have tables
pub have_tables : (rows : RowsValue) → IsTrue (is_sound rows) → AreTables (trees_of rows) rows
have_tables rows h = record { sound = h; names = refl; numbers = refl; nexts = refl; entities = refl; properties = refl; indexed = refl; linked = refl; linked_back = refl }
