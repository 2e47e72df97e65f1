-- Sound rows come back from their tables.
use Rattle.std.proofs.Common.{◌≡◌, ℕ, suc, ◌+◌, ◌<◌, ◌≤◌, ◌^◌, Bool, true, false, cond, T, ◌&&◌, List, [], ◌∷◌, ◌++◌, map, length, Option, Some, None, refl, ap, subst, ◌∙◌, arith, leb-true, nat_cmp}
use Rattle.std.specs.Prelude.{nat_eq, nat_le, drop, take}
use Rattle.std.specs.Option.{option_map, unwrap_or}
use Rattle.std.specs.List.{AllByRecursion, slice_get}
use Rattle.std.specs.declared.cmp.Ordering.TheVariants.{Less}
use Rattle.std.specs.Ordering.{is_lt}
use Rattle.std.specs.Cmp.{nat_cmp_is}
use Rattle.std.specs.Cmp.Lexicographic.{pointwise}
use Rattle.std.specs.FinMap.{empty, from_entries, entries, values, is_sorted}
use Rattle.std.specs.FinMap.Entries.{below_all}
use Rattle.std.proofs.lemmas.List.{append-nil}
use Rattle.xod_base.specs.declared.limits.TheConstants.{MOST_LOCALS}
use Rattle.xod_base.specs.declared.answer.NameKind.{NameKind}
use Rattle.xod_base.specs.declared.answer.NameKind.TheVariants.{Kinds, Props, Links}
use Rattle.xod_base.specs.Rows.{RowsValue, are_names, id_cmp, cell_cmp, link_cmp}
use Rattle.xod_base.specs.Views.{Entry, Trees}
use Rattle.xod_carry.specs.Carry.{with_pair, carried, carry, numbered}
use Rattle.xod_carry.specs.Laws.{Returns}
use Rattle.xod_carry.proofs.CallerLemmas.{bytes_total, bytes_same, numbers_total, numbers_same, each_too, carried-append, carry-from_entries, carried_back, carry_back, entries-from_entries}
use Rattle.xod_tables.specs.Keys.{u32, u64, kind_byte, name_key, next_key, entity_key, property_key, link_key, cell_key, join_key, stored}
use Rattle.xod_tables.specs.Tables.{AreTables, by_number, names_tree, next_tree, entities_tree, properties_tree, links_tree}
use Rattle.xod_tables.specs.Reading.{of_u32, of_u64, id_at, number_in, kind_in, id_in, cell_in, join_in, value_in, names_in, nexts_in, tree_at, candidate}
use Rattle.xod_tables.specs.declared.trees.TheConstants.{NAMES}
use Rattle.xod_tables.proofs.Facts.{Facts, facts, short, drawn_short, cells_fit, links_fit}
use Rattle.xod_tables.proofs.Orders.{id_total, id_same, cell_total, cell_same, link_total, link_same}
use Rattle.xod_tables.proofs.KeysRead.{u64_back, name_read, next_read, id_read, cell_read, join_read, value_back}
use Rattle.xod_tables.proofs.Written.{one_writing}

-- ---- lists by number
both : (a b : Bool) → T a → T b → T (a && b)
both true b p q = q
both false b p q = p

below_numbered : {X : Type 0} (i j : ℕ) (xs : List X) → i < j → T (below_all nat_cmp i (numbered j xs))
below_numbered i j [] h = tt
below_numbered i j (x ∷ xs) h = both _ _ (subst (λ r. T (is_lt r)) (nat_cmp_is i j Less h) tt) (below_numbered i (suc j) xs (omega arith))

numbered_sorted : {X : Type 0} (i : ℕ) (xs : List X) → T (is_sorted nat_cmp (numbered i xs))
numbered_sorted i [] = tt
numbered_sorted i (x ∷ xs) = both _ _ (below_numbered i (suc i) xs (omega arith)) (numbered_sorted (suc i) xs)

items_numbered : {X : Type 0} (i : ℕ) (xs : List X) → map (λ e. e.1) (numbered i xs) ≡ xs
items_numbered i [] = refl
items_numbered i (x ∷ xs) = λ j. x ∷ items_numbered (suc i) xs j

-- a list is the values of the map of its items by their numbers
items : {X : Type 0} (xs : List X) → values (from_entries {R = nat_cmp} (numbered 0 xs)) ≡ xs
items xs = ap (map (λ e. e.1)) (entries-from_entries numbers_total numbers_same (numbered 0 xs) (numbered_sorted 0 xs)) ∙ items_numbered 0 xs

-- ---- names
abbrev number_key : NameKind → ℕ → Option (List ℕ)
number_key list n = Some (name_key list n)

names_return : (list : NameKind) (i : ℕ) (xs : List (List ℕ)) → i + length xs ≤ 2 ^ 32 → AllByRecursion (Returns (number_key list) (λ n. n) (number_in list) (λ n. n)) (numbered i xs)
names_return list i [] h = tt
names_return list i (x ∷ xs) h = ((name_key list i, refl, name_read list i (omega arith), refl), names_return list (suc i) xs (omega arith))

-- a list's own entries are read
own_names : (list : NameKind) (names : List (List ℕ)) → are_names names ≡ true → carried (number_in list) (λ n. n) (by_number list names) ≡ numbered 0 names
own_names list names h = let few = short names h in carried_back (number_key list) (λ n. n) (number_in list) (λ n. n) (numbered 0 names) (names_return list 0 names (omega (arith, few)))

-- the entries of another list are passed over
no_names : (list other : NameKind) → nat_eq (kind_byte list) (kind_byte other) ≡ false → (i : ℕ) (xs : List (List ℕ)) → carried (number_in list) (λ n. n) (carried (number_key other) (λ n. n) (numbered i xs)) ≡ []
no_names list other apart i [] = refl
no_names list other apart i (x ∷ xs) =
    ap (λ b. with_pair (cond (b && pointwise nat_eq (u32 (of_u32 (u32 i))) (u32 i)) (Some (of_u32 (u32 i))) None) x (carried (number_in list) (λ n. n) (carried (number_key other) (λ n. n) (numbered (suc i) xs)))) apart
    ∙ no_names list other apart (suc i) xs

abbrev all_names : RowsValue → List Entry
all_names rows = by_number Kinds rows.types ++ (by_number Props rows.props ++ by_number Links rows.links)

read_names : (list : NameKind) (rows : RowsValue) → carry (number_in list) (λ n. n) nat_cmp (names_tree rows)
    ≡ from_entries (carried (number_in list) (λ n. n) (by_number Kinds rows.types) ++ (carried (number_in list) (λ n. n) (by_number Props rows.props) ++ carried (number_in list) (λ n. n) (by_number Links rows.links)))
read_names list rows =
    carry-from_entries bytes_total bytes_same numbers_total numbers_same (number_in list) (λ n. n) (one_writing (number_key list) (λ q. Some (of_u32 (drop 1 q)))) (all_names rows)
    ∙ ap from_entries (carried-append (number_in list) (λ n. n) (by_number Kinds rows.types) (by_number Props rows.props ++ by_number Links rows.links)
    ∙ ap (λ l. carried (number_in list) (λ n. n) (by_number Kinds rows.types) ++ l) (carried-append (number_in list) (λ n. n) (by_number Props rows.props) (by_number Links rows.links)))

types_back : (rows : RowsValue) → Facts rows → names_in Kinds (names_tree rows) ≡ rows.types
types_back rows f = ap values (read_names Kinds rows
    ∙ (λ i. from_entries (own_names Kinds rows.types f.types i ++ (no_names Kinds Props refl 0 rows.props i ++ no_names Kinds Links refl 0 rows.links i)))
    ∙ ap from_entries (append-nil (numbered 0 rows.types)))
    ∙ items rows.types

props_back : (rows : RowsValue) → Facts rows → names_in Props (names_tree rows) ≡ rows.props
props_back rows f = ap values (read_names Props rows
    ∙ (λ i. from_entries (no_names Props Kinds refl 0 rows.types i ++ (own_names Props rows.props f.props i ++ no_names Props Links refl 0 rows.links i)))
    ∙ ap from_entries (append-nil (numbered 0 rows.props)))
    ∙ items rows.props

links_back : (rows : RowsValue) → Facts rows → names_in Links (names_tree rows) ≡ rows.links
links_back rows f = ap values (read_names Links rows
    ∙ (λ i. from_entries (no_names Links Kinds refl 0 rows.types i ++ (no_names Links Props refl 0 rows.props i ++ own_names Links rows.links f.links i))))
    ∙ items rows.links

-- ---- next numbers
nexts_return : (i : ℕ) (xs : List ℕ) → i + length xs ≤ 2 ^ 32 → AllByRecursion (λ next. nat_le next MOST_LOCALS ≡ true) xs → AllByRecursion (Returns (λ n. Some (next_key n)) u64 kind_in of_u64) (numbered i xs)
nexts_return i [] h all = tt
nexts_return i (x ∷ xs) h all =
    let le : x ≤ MOST_LOCALS = leb-true x MOST_LOCALS all.0 in
    ((next_key i, refl, next_read i (omega arith), u64_back x (omega (arith, le))), nexts_return (suc i) xs (omega arith) all.1)

nexts_back : (rows : RowsValue) → Facts rows → nexts_in (next_tree rows) ≡ rows.nexts
nexts_back rows f =
    let few = short rows.types f.types in
    let many = f.as_many in
    ap values (carry-from_entries bytes_total bytes_same numbers_total numbers_same kind_in of_u64 (one_writing (λ n. Some (next_key n)) (λ q. Some (of_u32 q))) (carried (λ n. Some (next_key n)) u64 (numbered 0 rows.nexts))
    ∙ ap from_entries (carried_back (λ n. Some (next_key n)) u64 kind_in of_u64 (numbered 0 rows.nexts) (nexts_return 0 rows.nexts (omega (arith, few, many)) f.nexts)))
    ∙ items rows.nexts

-- ---- entities, properties and links
ids_back : (rows : RowsValue) → Facts rows → carry id_in (λ _. tt) id_cmp (entities_tree rows) ≡ rows.ids
ids_back rows f = carry_back (λ id. Some (entity_key id)) (λ _. []) id_in (λ _. tt) id_total id_same bytes_total bytes_same (one_writing (λ id. Some (entity_key id)) (λ q. Some (id_at q))) rows.ids
    (each_too (λ e h. (entity_key e.0, refl, id_read e.0 (drawn_short rows f e.0 h), refl)) (entries rows.ids) f.ids)

cells_back : (rows : RowsValue) → Facts rows → carry (cell_in rows.props) value_in cell_cmp (properties_tree rows) ≡ rows.values
cells_back rows f = carry_back (cell_key rows.props) stored (cell_in rows.props) value_in cell_total cell_same bytes_total bytes_same
    (one_writing (cell_key rows.props) (λ q. option_map (λ name. (id_at q, name)) (slice_get rows.props (of_u32 (drop 8 q))))) rows.values
    (each_too (λ e h. (property_key e.0.0 h.name.number, ap (option_map (property_key e.0.0)) h.name.is, cell_read rows.props e.0.0 e.0.1 h.name h.id, value_back e.1 h.value)) (entries rows.values) (cells_fit rows f))

joins_back : (rows : RowsValue) → Facts rows → carry (join_in rows.links) (λ _. tt) link_cmp (links_tree rows) ≡ rows.joined
joins_back rows f = carry_back (join_key rows.links) (λ _. []) (join_in rows.links) (λ _. tt) link_total link_same bytes_total bytes_same
    (one_writing (join_key rows.links) (λ q. option_map (λ name. (id_at q, (name, id_at (drop 12 q)))) (slice_get rows.links (of_u32 (take 4 (drop 8 q)))))) rows.joined
    (each_too (λ e h. (link_key e.0.0 h.name.number e.0.1.1, ap (option_map (λ n. link_key e.0.0 n e.0.1.1)) h.name.is, join_read rows.links e.0.0 e.0.1.1 e.0.1.0 h.name h.source h.target, refl)) (entries rows.joined) (links_fit rows f))

-- what is read from the tables of rows are these rows
pub candidate_is : (trees : Trees) (rows : RowsValue) → AreTables trees rows → candidate trees ≡ rows
candidate_is trees rows h =
    let f = facts rows h.sound in
    let names : tree_at trees NAMES ≡ names_tree rows = ap (λ t. unwrap_or t empty) h.names in
    let types = ap (names_in Kinds) names ∙ types_back rows f in
    let props = ap (names_in Props) names ∙ props_back rows f in
    let links = ap (names_in Links) names ∙ links_back rows f in
    let nexts = ap (λ t. nexts_in (unwrap_or t empty)) h.nexts ∙ nexts_back rows f in
    let ids = ap (λ t. carry id_in (λ _. tt) id_cmp (unwrap_or t empty)) h.entities ∙ ids_back rows f in
    let cells = (λ i. carry (cell_in (props i)) value_in cell_cmp (unwrap_or (h.properties i) empty)) ∙ cells_back rows f in
    let joined = (λ i. carry (join_in (links i)) (λ _. tt) link_cmp (unwrap_or (h.linked i) empty)) ∙ joins_back rows f in
    λ i. record { types = types i; props = props i; links = links i; nexts = nexts i; ids = ids i; values = cells i; joined = joined i }
