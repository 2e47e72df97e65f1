-- The eight trees of rows after each group of writes, whether or not the rows are sound in between.
use Rattle.std.proofs.Common.{◌≡◌, ℕ, ◌+◌, ◌<◌, ◌≤◌, ◌^◌, List, [], ◌∷◌, ◌++◌, length, Option, Some, None, refl, sym, ap, ◌∙◌}
use Rattle.std.specs.Prelude.{IsTrue}
use Rattle.std.specs.Option.{option_map}
use Rattle.std.specs.List.{AllByRecursion}
use Rattle.std.specs.FinMap.{insert, remove, get, entries}
use Rattle.xod_base.specs.declared.value.EntityId.{EntityId}
use Rattle.xod_base.specs.declared.value.Value.{Value}
use Rattle.xod_base.specs.declared.answer.NameKind.TheVariants.{Kinds, Props, Links}
use Rattle.xod_base.specs.Rows.{RowsValue, Cell, LinkKey, number_of, is_sound}
use Rattle.xod_base.specs.Values.{key_of}
use Rattle.xod_base.specs.Views.{Tree, Trees}
use Rattle.xod_journal.specs.Changes.{with_next}
use Rattle.xod_tables.specs.Keys.{IsShort, name_key, number_key, next_key, entity_key, property_key, index_key, link_key, back_key, stored, u32, u64}
use Rattle.xod_tables.specs.Tables.{AreTables, names_tree, numbers_tree, next_tree, entities_tree, properties_tree, index_tree, links_tree, back_tree}
use Rattle.xod_overlay.specs.declared.write.Write.{Write}
use Rattle.xod_tables.specs.Writes.{after_write, after_writes, with_key, name_writes, id_writes, id_removals, value_writes, link_writes, link_removals}
use Rattle.xod_tables.specs.declared.trees.TheConstants.{NAMES, NUMBERS, NEXT, ENTITIES, PROPERTIES, INDEX, LINKS, BACK}
use Rattle.xod_tables.proofs.CallerLemmas.{HasKey, HaveKeys, HasLinkKey, HaveLinkKeys}
use Rattle.xod_writes.proofs.NameTrees.{types_by_number, types_by_name, props_by_number, props_by_name, links_by_number, links_by_name}
use Rattle.xod_writes.proofs.NextTree.{next_put}
use Rattle.xod_writes.proofs.EntryTrees.{entity_put, entity_removed, property_put, property_removed, indexed_new, indexed_removed, indexed_changed, properties_agree, index_agree, link_put, back_put, link_removed, back_removed, links_agree, back_agree}

-- each of the trees is the one that the rows have there
pub record Hold (trees : Trees) (rows : RowsValue) : Type 0 where
  pub names : trees NAMES ≡ Some (names_tree rows)
  pub numbers : trees NUMBERS ≡ Some (numbers_tree rows)
  pub nexts : trees NEXT ≡ Some (next_tree rows)
  pub entities : trees ENTITIES ≡ Some (entities_tree rows)
  pub properties : trees PROPERTIES ≡ Some (properties_tree rows)
  pub indexed : trees INDEX ≡ Some (index_tree rows)
  pub linked : trees LINKS ≡ Some (links_tree rows)
  pub linked_back : trees BACK ≡ Some (back_tree rows)

pub held : (trees : Trees) (rows : RowsValue) → AreTables trees rows → Hold trees rows
held trees rows h = record { names = h.names; numbers = h.numbers; nexts = h.nexts; entities = h.entities; properties = h.properties; indexed = h.indexed; linked = h.linked; linked_back = h.linked_back }

pub tables : (trees : Trees) (rows : RowsValue) → IsTrue (is_sound rows) → Hold trees rows → AreTables trees rows
tables trees rows s h = record { sound = s; names = h.names; numbers = h.numbers; nexts = h.nexts; entities = h.entities; properties = h.properties; indexed = h.indexed; linked = h.linked; linked_back = h.linked_back }

-- writes after writes
pub after-append : (trees : Trees) (ws vs : List Write) → after_writes trees (ws ++ vs) ≡ after_writes (after_writes trees ws) vs
after-append trees [] vs = refl
after-append trees (w ∷ ws) vs = after-append (after_write trees w) ws vs

-- a tree with a key set, or removed
changed : (t : Option Tree) (s r : Tree) (key : List ℕ) (value : Option (List ℕ)) → t ≡ Some s → r ≡ with_key s key value → option_map (λ tree. with_key tree key value) t ≡ Some r
changed t s r key value e f = ap (option_map (λ tree. with_key tree key value)) e ∙ ap Some (sym f)

module _ (trees : Trees) (rows : RowsValue) (h : Hold trees rows) where
  -- ---- new names
  pub hold_type : (name : List ℕ) → length rows.types ≤ 4096 → number_of rows.types name ≡ None
      → Hold (after_writes trees (name_writes Kinds (length rows.types) name)) (record rows { types = rows.types ++ name ∷ [] })
  hold_type name few none = record {
    names = changed (trees NAMES) (names_tree rows) _ (name_key Kinds (length rows.types)) (Some name) h.names (types_by_number rows.types rows.props rows.links name few);
    numbers = changed (trees NUMBERS) (numbers_tree rows) _ (number_key Kinds name) (Some (u32 (length rows.types))) h.numbers (types_by_name rows.types rows.props rows.links name none);
    nexts = h.nexts;
    entities = h.entities;
    properties = h.properties;
    indexed = h.indexed;
    linked = h.linked;
    linked_back = h.linked_back;
  }

  pub hold_prop : (name : List ℕ) → length rows.props ≤ 4096 → number_of rows.props name ≡ None → AllByRecursion (λ e. number_of (rows.props ++ name ∷ []) e.0.1 ≡ number_of rows.props e.0.1) (entries rows.values)
      → Hold (after_writes trees (name_writes Props (length rows.props) name)) (record rows { props = rows.props ++ name ∷ [] })
  hold_prop name few none all = record {
    names = changed (trees NAMES) (names_tree rows) _ (name_key Props (length rows.props)) (Some name) h.names (props_by_number rows.types rows.props rows.links name few);
    numbers = changed (trees NUMBERS) (numbers_tree rows) _ (number_key Props name) (Some (u32 (length rows.props))) h.numbers (props_by_name rows.types rows.props rows.links name none);
    nexts = h.nexts;
    entities = h.entities;
    properties = h.properties ∙ ap Some (sym (properties_agree rows.props (rows.props ++ name ∷ []) rows.values all));
    indexed = h.indexed ∙ ap Some (sym (index_agree rows.props (rows.props ++ name ∷ []) rows.values all));
    linked = h.linked;
    linked_back = h.linked_back;
  }

  pub hold_link_name : (name : List ℕ) → length rows.links ≤ 4096 → number_of rows.links name ≡ None → AllByRecursion (λ e. number_of (rows.links ++ name ∷ []) e.0.1.0 ≡ number_of rows.links e.0.1.0) (entries rows.joined)
      → Hold (after_writes trees (name_writes Links (length rows.links) name)) (record rows { links = rows.links ++ name ∷ [] })
  hold_link_name name few none all = record {
    names = changed (trees NAMES) (names_tree rows) _ (name_key Links (length rows.links)) (Some name) h.names (links_by_number rows.types rows.props rows.links name few);
    numbers = changed (trees NUMBERS) (numbers_tree rows) _ (number_key Links name) (Some (u32 (length rows.links))) h.numbers (links_by_name rows.types rows.props rows.links name none);
    nexts = h.nexts;
    entities = h.entities;
    properties = h.properties;
    indexed = h.indexed;
    linked = h.linked ∙ ap Some (sym (links_agree rows.links (rows.links ++ name ∷ []) rows.joined all));
    linked_back = h.linked_back ∙ ap Some (sym (back_agree rows.links (rows.links ++ name ∷ []) rows.joined all));
  }

  -- ---- entities
  pub hold_entity : (id : EntityId) → AllByRecursion (λ e. IsShort e.0) (entries rows.ids) → IsShort id → id.kind ≤ length rows.nexts → length rows.nexts < 2 ^ 32
      → Hold (after_writes trees (id_writes id)) (record rows { nexts = with_next rows.nexts id.kind (id.local + 1); ids = insert rows.ids id tt })
  hold_entity id all s le lt = record {
    names = h.names;
    numbers = h.numbers;
    nexts = changed (trees NEXT) (next_tree rows) _ (next_key id.kind) (Some (u64 (id.local + 1))) h.nexts (next_put rows.nexts id.kind (id.local + 1) le lt);
    entities = changed (trees ENTITIES) (entities_tree rows) _ (entity_key id) (Some []) h.entities (entity_put rows.ids all id s);
    properties = h.properties;
    indexed = h.indexed;
    linked = h.linked;
    linked_back = h.linked_back;
  }

  pub hold_no_entity : (id : EntityId) → AllByRecursion (λ e. IsShort e.0) (entries rows.ids) → IsShort id → get rows.ids id ≡ Some tt
      → Hold (after_writes trees (id_removals id)) (record rows { ids = remove rows.ids id })
  hold_no_entity id all s is = record {
    names = h.names;
    numbers = h.numbers;
    nexts = h.nexts;
    entities = changed (trees ENTITIES) (entities_tree rows) _ (entity_key id) None h.entities (entity_removed rows.ids all id s is);
    properties = h.properties;
    indexed = h.indexed;
    linked = h.linked;
    linked_back = h.linked_back;
  }

  -- ---- properties
  module _ (all : HaveKeys rows.props rows.values) (cell : Cell) (k : HasKey rows.props cell) where
    pub hold_new_value : (value : Value) → get rows.values cell ≡ None
        → Hold (after_writes trees (value_writes cell.0 k.name.number None (Some value))) (record rows { values = insert rows.values cell value })
    hold_new_value value is = record {
      names = h.names;
      numbers = h.numbers;
      nexts = h.nexts;
      entities = h.entities;
      properties = changed (trees PROPERTIES) (properties_tree rows) _ (property_key cell.0 k.name.number) (Some (stored value)) h.properties (property_put rows.props rows.values all cell k value);
      indexed = changed (trees INDEX) (index_tree rows) _ (index_key cell.0 k.name.number (key_of value)) (Some []) h.indexed (indexed_new rows.props rows.values all cell k value is);
      linked = h.linked;
      linked_back = h.linked_back;
    }

    pub hold_changed_value : (old new : Value) → get rows.values cell ≡ Some old
        → Hold (after_writes trees (value_writes cell.0 k.name.number (Some old) (Some new))) (record rows { values = insert rows.values cell new })
    hold_changed_value old new is = record {
      names = h.names;
      numbers = h.numbers;
      nexts = h.nexts;
      entities = h.entities;
      properties = changed (trees PROPERTIES) (properties_tree rows) _ (property_key cell.0 k.name.number) (Some (stored new)) h.properties (property_put rows.props rows.values all cell k new);
      indexed = changed (option_map (λ tree. remove tree (index_key cell.0 k.name.number (key_of old))) (trees INDEX)) (remove (index_tree rows) (index_key cell.0 k.name.number (key_of old))) _ (index_key cell.0 k.name.number (key_of new)) (Some [])
          (ap (option_map (λ tree. remove tree (index_key cell.0 k.name.number (key_of old)))) h.indexed) (indexed_changed rows.props rows.values all cell k old new is);
      linked = h.linked;
      linked_back = h.linked_back;
    }

    pub hold_no_value : (old : Value) → get rows.values cell ≡ Some old
        → Hold (after_writes trees (value_writes cell.0 k.name.number (Some old) None)) (record rows { values = remove rows.values cell })
    hold_no_value old is = record {
      names = h.names;
      numbers = h.numbers;
      nexts = h.nexts;
      entities = h.entities;
      properties = changed (trees PROPERTIES) (properties_tree rows) _ (property_key cell.0 k.name.number) None h.properties (property_removed rows.props rows.values all cell k old is);
      indexed = changed (trees INDEX) (index_tree rows) _ (index_key cell.0 k.name.number (key_of old)) None h.indexed (indexed_removed rows.props rows.values all cell k old is);
      linked = h.linked;
      linked_back = h.linked_back;
    }

  -- ---- links
  module _ (all : HaveLinkKeys rows.links rows.joined) (link : LinkKey) (k : HasLinkKey rows.links link) where
    pub hold_link : Hold (after_writes trees (link_writes link.0 k.name.number link.1.1)) (record rows { joined = insert rows.joined link tt })
    hold_link = record {
      names = h.names;
      numbers = h.numbers;
      nexts = h.nexts;
      entities = h.entities;
      properties = h.properties;
      indexed = h.indexed;
      linked = changed (trees LINKS) (links_tree rows) _ (link_key link.0 k.name.number link.1.1) (Some []) h.linked (link_put rows.links rows.joined all link k);
      linked_back = changed (trees BACK) (back_tree rows) _ (back_key link.0 k.name.number link.1.1) (Some []) h.linked_back (back_put rows.links rows.joined all link k);
    }

    pub hold_no_link : get rows.joined link ≡ Some tt → Hold (after_writes trees (link_removals link.0 k.name.number link.1.1)) (record rows { joined = remove rows.joined link })
    hold_no_link is = record {
      names = h.names;
      numbers = h.numbers;
      nexts = h.nexts;
      entities = h.entities;
      properties = h.properties;
      indexed = h.indexed;
      linked = changed (trees LINKS) (links_tree rows) _ (link_key link.0 k.name.number link.1.1) None h.linked (link_removed rows.links rows.joined all link k is);
      linked_back = changed (trees BACK) (back_tree rows) _ (back_key link.0 k.name.number link.1.1) None h.linked_back (back_removed rows.links rows.joined all link k is);
    }
