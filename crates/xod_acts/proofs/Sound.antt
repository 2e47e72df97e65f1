-- What sound rows have: names of what is there are listed, and texts are within the limit.
use Rattle.std.proofs.Common.{◌≡◌, ℕ, ◌≤◌, Bool, true, false, cond, IsTrue, List, [], ◌∷◌, map, Option, Some, None, refl, sym, ap, ◌∙◌, arith, leb-true}
use Rattle.std.specs.Prelude.{◌&&◌, is_some, nat_le}
use Rattle.std.specs.List.{AllByRecursion, filter, list_all}
use Rattle.std.specs.FinMap.{entries, get}
use Rattle.std.specs.Cmp.Lexicographic.{bytes_decides}
use Rattle.xod_base.specs.declared.limits.TheConstants.{LONGEST_TEXT}
use Rattle.xod_base.specs.declared.value.EntityId.{EntityId}
use Rattle.xod_base.specs.declared.value.Value.{Value}
use Rattle.xod_base.specs.Evaluation.{is_link_of, targets_of}
use Rattle.xod_base.specs.Rows.{Cell, LinkKey, RowsValue, is_cell, is_listed, is_sound, number_of, same_id, text_length}
use Rattle.xod_base.specs.Values.{is_value, same_bytes}
use Rattle.xod_carry.proofs.CallerLemmas.{each_get}
use Rattle.xod_journal.specs.Changes.{kind_number, option_text_length}
use Rattle.xod_reader.specs.declared.parts.NamedValue.{NamedValue}
use Rattle.xod_tables.proofs.CallerLemmas.{CellFits, Facts, LinkFits, Listed, cell_same, cell_total, cells_fit, facts, link_same, link_total, links_fit, not_none}
use Rattle.xod_reader.specs.Named.{named_values}
use Rattle.xod_acts.specs.Found.{all_short}
use Rattle.xod_acts.proofs.Lists.{map_map}

four : (a b c d : Bool) → (a && b && c && d) ≡ true → d ≡ true
four true b c d h = three b c d h
  where
    three : (b c d : Bool) → (b && c && d) ≡ true → d ≡ true
    three true true d h = h
    three true false d h = cc
    three false c d h = cc
four false b c d h = cc

second : (a b : Bool) → (a && b) ≡ true → b ≡ true
second true b h = h
second false b h = cc

both : (a b : Bool) → a ≡ true → b ≡ true → (a && b) ≡ true
both a b p q = λ i. p i && q i

short_cell : (rows : RowsValue) (e : Cell × Value) → is_cell rows e ≡ true → nat_le (text_length e.1) LONGEST_TEXT ≡ true
short_cell rows e h = four (is_some (get rows.ids e.0.0)) (is_listed rows.props e.0.1) (is_value e.1) (nat_le (text_length e.1) LONGEST_TEXT) h

module _ (rows : RowsValue) (sound : IsTrue (is_sound rows)) where
  f : Facts rows
  f = facts rows sound

  short_at : (cell : Cell) (o : Option Value) → get rows.values cell ≡ o → option_text_length o ≤ LONGEST_TEXT
  short_at cell None is = omega arith
  short_at cell (Some value) is =
      leb-true (text_length value) LONGEST_TEXT
      (short_cell rows (cell, value) (each_get cell_total cell_same (λ e. is_cell rows e ≡ true) rows.values cell value f.cells is))

  -- no text that is there is longer than the limit
  pub short_value : (cell : Cell) → option_text_length (get rows.values cell) ≤ LONGEST_TEXT
  short_value cell = short_at cell (get rows.values cell) refl

  -- the name of a property that is there is listed
  pub value_named : (id : EntityId) (name : List ℕ) (value : Value) → get rows.values (id, name) ≡ Some value → Listed rows.props name
  value_named id name value is = let c : CellFits rows ((id, name), value) = each_get cell_total cell_same (CellFits rows) rows.values
      (id, name) value (cells_fit rows f) is in c.name

  -- the name of a link that is there is listed
  pub link_named : (source : EntityId) (name : List ℕ) (target : EntityId) → is_some (get rows.joined (source, (name, target))) ≡ true → Listed rows.links name
  link_named source name target is = at (get rows.joined (source, (name, target))) refl is
    where
      at : (o : Option (Unit {0})) → get rows.joined (source, (name, target)) ≡ o → is_some o ≡ true → Listed rows.links name
      at None e h = cc
      at (Some x) e h = let c : LinkFits rows (source, (name, target)) = each_get link_total link_same (λ e. LinkFits rows e.0) rows.joined
          (source, (name, target)) x (links_fit rows f) e in c.name

  -- a link whose name is not listed has no targets
  none_of : (link : List ℕ) (source : EntityId) → number_of rows.links link ≡ None → (es : List (LinkKey × Unit {0}))
      → AllByRecursion (λ e. LinkFits rows e.0) es → filter (is_link_of source link) (map (λ e. e.0) es) ≡ []
  none_of link source none [] fit = refl
  none_of link source none (e ∷ es) fit = not_first (is_link_of source link e.0) refl (none_of link source none es fit.1)
    where
      other : is_link_of source link e.0 ≡ true → ⊥
      other is =
          let name : e.0.1.0 ≡ link = (bytes_decides e.0.1.0 link).0 (second (same_id e.0.0 source) (same_bytes e.0.1.0 link) is) in
          not_none fit.0.name.number (sym fit.0.name.is ∙ ap (number_of rows.links) name ∙ none)

      not_first : (b : Bool) → is_link_of source link e.0 ≡ b → filter (is_link_of source link) (map (λ x. x.0) es) ≡ []
          → cond b (e.0 ∷ filter (is_link_of source link) (map (λ x. x.0) es)) (filter (is_link_of source link) (map (λ x. x.0) es)) ≡ []
      not_first true is more = absurd (other is)
      not_first false is more = more

  pub no_targets : (source : EntityId) (link : List ℕ) → number_of rows.links link ≡ None → targets_of rows link source ≡ []
  no_targets source link none = ap (map (λ key. key.1.1)) (none_of link source none (entries rows.joined) (links_fit rows f))

  -- no value of an entity has a longer text than the limit
  all_short_of : (q : NamedValue → Bool) (named : Cell × Value → NamedValue) (p : Cell × Value → Bool)
      → ((e : Cell × Value) → is_cell rows e ≡ true → q (named e) ≡ true)
      → (es : List (Cell × Value)) → AllByRecursion (λ e. is_cell rows e ≡ true) es → list_all q (map named (filter p es)) ≡ true
  all_short_of q named p law [] fit = refl
  all_short_of q named p law (e ∷ es) fit =
      elim (p e) as (λ b. list_all q (map named (cond b (e ∷ filter p es) (filter p es))) ≡ true) [
        | true ↦ both (q (named e)) (list_all q (map named (filter p es))) (law e fit.0) (all_short_of q named p law es fit.1)
        | false ↦ all_short_of q named p law es fit.1
      ]

  pub short_values : (id : EntityId) → all_short (named_values rows id) ≡ true
  short_values id =
      ap all_short (map_map (λ cell. (cell.0.1, cell.1)) (λ prop. record { number = kind_number rows.props prop.0; name = prop.0; value = prop.1 })
      (filter (λ cell. same_id cell.0.0 id) (entries rows.values)))
      ∙ all_short_of (λ part. nat_le (text_length part.value) LONGEST_TEXT)
      (λ cell. record { number = kind_number rows.props cell.0.1; name = cell.0.1; value = cell.1 }) (λ cell. same_id cell.0.0 id) (short_cell rows)
      (entries rows.values) f.cells
