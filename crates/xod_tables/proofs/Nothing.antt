-- Empty trees are the tables of no rows.
use Rattle.std.proofs.Common.{◌≡◌, ℕ, [], map, Some, sym, ap, ◌∙◌}
use Rattle.std.specs.Prelude.{◌&&◌}
use Rattle.std.specs.List.{list_all, flat_map}
use Rattle.std.specs.FinMap.{empty, from_entries}
use Rattle.xod_base.specs.Rows.{no_rows, is_drawn, is_cell, is_join}
use Rattle.xod_base.specs.Views.{Trees}
use Rattle.xod_carry.specs.Carry.{carried}
use Rattle.xod_carry.proofs.CallerLemmas.{entries-empty}
use Rattle.xod_tables.specs.Keys.{entity_key, cell_key, stored, index_entries, join_key, join_back_key}
use Rattle.xod_tables.specs.Tables.{AreTables}
use Rattle.xod_tables.specs.declared.trees.TheConstants.{NAMES, NUMBERS, NEXT, ENTITIES, PROPERTIES, INDEX, LINKS, BACK}
use Rattle.xod_tables.proofs.Orders.{id_total, id_same, cell_total, cell_same, link_total, link_same}

pub no_tables : (trees : Trees) → ((tree : ℕ) → trees tree ≡ Some empty) → AreTables trees no_rows
no_tables trees h =
    let ids = entries-empty id_total id_same in
    let values = entries-empty cell_total cell_same in
    let joined = entries-empty link_total link_same in
    record {
      sound = λ i. list_all (λ e. is_drawn [] e.0) (ids i) && list_all (is_cell no_rows) (values i) && list_all (is_join no_rows) (map (λ e. e.0) (joined i));
      names = h NAMES;
      numbers = h NUMBERS;
      nexts = h NEXT;
      entities = h ENTITIES ∙ ap (λ es. Some (from_entries (carried (λ id. Some (entity_key id)) (λ _. []) es))) (sym ids);
      properties = h PROPERTIES ∙ ap (λ es. Some (from_entries (carried (cell_key []) stored es))) (sym values);
      indexed = h INDEX ∙ ap (λ es. Some (from_entries (flat_map (index_entries []) es))) (sym values);
      linked = h LINKS ∙ ap (λ es. Some (from_entries (carried (join_key []) (λ _. []) es))) (sym joined);
      linked_back = h BACK ∙ ap (λ es. Some (from_entries (carried (join_back_key []) (λ _. []) es))) (sym joined);
    }
