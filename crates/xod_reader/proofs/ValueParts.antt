-- The properties of an entity by their numbers, once they have names and are sorted by these.
use Rattle.std.proofs.Common.{◌≡◌, ℕ, ◌<◌, Bool, true, List, map, length, Option, Some, None, refl, sym, ap, subst, ◌∙◌, inl, true≢false}
use Rattle.std.specs.List.{AllByRecursion, filter}
use Rattle.std.specs.List.Sorted.{IsPermutation, IsSorted, IsSortedBy}
use Rattle.std.specs.declared.cmp.Ordering.{Ordering}
use Rattle.std.specs.declared.cmp.Ordering.TheVariants.{Less}
use Rattle.std.specs.Ordering.{is_eq, is_lt, nat_cmp}
use Rattle.std.specs.Cmp.{tied_itself}
use Rattle.std.specs.FinMap.{entries, get}
use Rattle.xod_base.specs.declared.value.EntityId.{EntityId}
use Rattle.xod_base.specs.declared.value.Value.{Value}
use Rattle.xod_base.specs.Rows.{RowsValue, Cell, same_id}
use Rattle.xod_carry.specs.Carry.{numbered}
use Rattle.xod_carry.proofs.CallerLemmas.{each, each_get, each_too, numbers_total}
use Rattle.xod_journal.specs.Changes.{kind_number}
use Rattle.xod_journal.specs.Shows.{name_at}
use Rattle.xod_tables.proofs.CallerLemmas.{Facts, CellFits, cells_fit, cell_total, cell_same, not_none, same_some}
use Rattle.xod_readings.specs.Lists.{numbered_values, with_number}
use Rattle.xod_readings.proofs.LinksListed.{IsNumbered, by_place}
use Rattle.xod_readings.proofs.Ranging.{In, Rises, each_flat_map, each_map, each_numbered, in_flat_map, in_map, in_numbered, number_cmp, rises_flat_map, rises_numbered}
use Rattle.xod_reader.specs.declared.parts.NamedValue.{NamedValue}
use Rattle.xod_reader.specs.Named.{named_values}
use Rattle.xod_reader.specs.Naming.{named_value}
use Rattle.xod_reader.specs.Orders.{by_name}
use Rattle.xod_reader.proofs.NameLemmas.{id_is, is_id, map_map, name_there, number_back, number_within, same_number}
use Rattle.xod_reader.proofs.Orders.{cells_by_name}
use Rattle.xod_reader.proofs.SortedParts.{HasParts, entry_of, once, sorted_parts}

module _ (rows : RowsValue) (f : Facts rows) (id : EntityId) where
  abbrev of_name : ℕ × List ℕ → List (ℕ × Value)
  of_name name = with_number name.0 (get rows.values (id, name.1))

  -- a value with its number: the name of the number is listed, and the rows have the value by it
  record IsValue (part : ℕ × Value) : Type 0 where
    name : List ℕ
    numbered : IsNumbered rows.props part.0 name
    is : get rows.values (id, name) ≡ Some part.1

  with_each : (P : ℕ × Value → Type 0) (n : ℕ) (o : Option Value) → ((value : Value) → o ≡ Some value → P (n, value)) → AllByRecursion P (with_number n o)
  with_each P n None h = tt
  with_each P n (Some value) h = (h value refl, tt)

  with_rises : (n : ℕ) (o : Option Value) → Rises number_cmp (with_number n o)
  with_rises n None = tt
  with_rises n (Some value) = (tt, tt)

  in_with : (n : ℕ) (o : Option Value) (value : Value) → o ≡ Some value → In (n, value) (with_number n o)
  in_with n None value e = absurd (not_none value (sym e))
  in_with n (Some v) value e = let same = same_some v value e in inl (λ i. (n, same i))

  values_rise : Rises number_cmp (numbered_values rows id)
  values_rise = rises_flat_map number_cmp number_cmp (λ _. Unit {0}) of_name
      (λ x y p q less. with_each (λ a. AllByRecursion (λ b. number_cmp a b ≡ Less) (of_name y)) x.0 (get rows.values (id, x.1))
      (λ v e. with_each (λ b. number_cmp (x.0, v) b ≡ Less) y.0 (get rows.values (id, y.1)) (λ w g. less)))
      (numbered 0 rows.props) (each (λ _. tt) (numbered 0 rows.props)) (each (λ name. with_rises name.0 (get rows.values (id, name.1))) (numbered 0 rows.props)) (rises_numbered 0 rows.props)

  each_value : AllByRecursion IsValue (numbered_values rows id)
  each_value = each_flat_map IsValue of_name (numbered 0 rows.props)
      (each_numbered (λ name. AllByRecursion IsValue (of_name name)) rows.props
      (λ j x at. with_each IsValue j (get rows.values (id, x)) (λ value is. record { name = x; numbered = by_place rows.props f.props j x at; is = is })))

  -- the numbers of an entity's properties have names
  pub value_numbers : AllByRecursion (λ part. part.0 < length rows.props) (numbered_values rows id)
  value_numbers = each_too (λ part p. number_within rows.props part.0 p.name p.numbered) (numbered_values rows id) each_value

  -- ---- with their names
  abbrev key : NamedValue → Cell
  key part = (id, part.name)

  abbrev value : NamedValue → Value
  value part = part.value

  abbrev kept : Cell → Bool
  kept cell = same_id cell.0 id

  abbrev back : Cell × Value → NamedValue
  back e = record { number = kind_number rows.props e.0.1; name = e.0.1; value = e.1 }

  abbrev named : List NamedValue
  named = map (named_value rows.props) (numbered_values rows id)

  apart : (x y : ℕ × Value) → IsValue x → IsValue y → number_cmp x y ≡ Less → key (named_value rows.props x) ≡ key (named_value rows.props y) → ⊥
  apart x y p q less e =
      let number = same_number rows.props x.0 y.0 p.name q.name p.numbered q.numbered (ap (λ (c : Cell). c.1) e) in
      true≢false (ap is_eq (sym (tied_itself numbers_total x.0) ∙ ap (nat_cmp x.0) number ∙ less))

  met : (cell : Cell) (v : Value) → get rows.values cell ≡ Some v → kept cell ≡ true → In (cell, v) (map (entry_of cell_total cell_same key value) named)
  met cell v is own =
      let fits : CellFits rows (cell, v) = each_get cell_total cell_same (CellFits rows) rows.values cell v (cells_fit rows f) is in
      let mine : cell.0 ≡ id = id_is cell.0 id own in
      let number = fits.name.number in
      let has_name : IsNumbered rows.props number cell.1 = record { is = fits.name.is; at = fits.name.at; small = fits.name.small } in
      let there : In (number, v) (numbered_values rows id) = in_flat_map of_name (numbered 0 rows.props) (number, cell.1) (number, v)
      (in_numbered number rows.props cell.1 fits.name.at) (in_with number (get rows.values (id, cell.1)) v (ap (λ x. get rows.values (x, cell.1)) (sym mine) ∙ is)) in
      let name = name_there rows.props number cell.1 has_name in
      subst (λ c. In (c, v) (map (entry_of cell_total cell_same key value) named)) (λ i. (sym mine i, name i))
      (in_map (entry_of cell_total cell_same key value) named (named_value rows.props (number, v)) (in_map (named_value rows.props) (numbered_values rows id) (number, v) there))

  parts : HasParts cell_total cell_same key value rows.values kept named
  parts = record {
    stand = each_map (λ a. (get rows.values (key a) ≡ Some (value a)) × (kept (key a) ≡ true)) (named_value rows.props) (numbered_values rows id)
        (each_too (λ part p. (ap (λ n. get rows.values (id, n)) (name_there rows.props part.0 p.name p.numbered) ∙ p.is, is_id id)) (numbered_values rows id) each_value);
    met = met;
    few = once cell_total cell_same key value (named_value rows.props) number_cmp IsValue apart (numbered_values rows id) each_value values_rise;
  }

  -- sorted by name they are what the rows have
  pub sorted_values : (list : List NamedValue) → IsPermutation named list → IsSorted by_name list → list ≡ named_values rows id
  sorted_values list moved sorted =
      sorted_parts cell_total cell_same key value rows.values kept named list parts moved
      (subst (λ (c : NamedValue → NamedValue → Ordering). IsSortedBy (λ a b. is_lt (c a b)) list) (λ i a b. sym (cells_by_name id a.name b.name) i) sorted)
      back
      (each_map (λ a. back (entry_of cell_total cell_same key value a) ≡ a) (named_value rows.props) (numbered_values rows id)
      (each_too (λ part p. λ i. record { number = number_back rows.props part.0 p.name p.numbered i; name = name_at rows.props part.0; value = part.1 }) (numbered_values rows id) each_value))
      ∙ sym (map_map (λ (prop : List ℕ × Value). record { number = kind_number rows.props prop.0; name = prop.0; value = prop.1 }) (λ (cell : Cell × Value). (cell.0.1, cell.1))
      (filter (λ cell. same_id cell.0.0 id) (entries rows.values)))
