-- Rows without contents are sound, and changes that fit are made one after another.
use Rattle.std.proofs.Common.{◌≡◌, ◌∙◌, ℕ, ◌+◌, ◌<◌, true, List, [], ◌∷◌, map, length, get_or, drop, sym, ap}
use Rattle.std.specs.Prelude.{◌&&◌}
use Rattle.std.specs.List.{list_all}
use Rattle.std.specs.FinMap.{entries, entries-from_sorted, empty, from_sorted, empty_of_len, len-entries}
use Rattle.std.proofs.lemmas.List.{drop_more}
use Rattle.std.specs.declared.cmp.Ordering.{Ordering}
use Rattle.xod_base.specs.declared.value.Value.{Value}
use Rattle.xod_base.specs.Rows.{RowsValue, id_cmp, cell_cmp, link_cmp, is_sound, no_rows, is_drawn, is_cell, is_join}
use Rattle.xod_journal.specs.declared.change.RowChange.{RowChange}
use Rattle.xod_journal.specs.Changes.{all_applied, all_fit, applied, fits}
use Rattle.xod_model.proofs.TestLemmas.{two}

entries-empty : {K : Type 0} (X : Type 0) (R : K → K → Ordering) → entries (empty {X = X} {R = R}) ≡ []
entries-empty X R =
    sym (ap entries (empty_of_len (from_sorted []) (len-entries (from_sorted {R = R} []) ∙ ap length (entries-from_sorted R [] tt)))) ∙ entries-from_sorted R [] tt

pub no_rows-sound : is_sound no_rows ≡ true
no_rows-sound = λ i. list_all (λ e. is_drawn [] e.0) (entries-empty (Unit {0}) id_cmp i) && list_all (is_cell no_rows) (entries-empty Value cell_cmp i) && list_all (is_join no_rows) (map (λ e. e.0) (entries-empty (Unit {0}) link_cmp i))

-- what is known before the change at a place of a list is known after it
pub record Stage (start rows : RowsValue) (changes : List RowChange) (i : ℕ) : Type 0 where
  pub same : all_applied rows (drop i changes) ≡ all_applied start changes
  pub fit : all_fit rows (drop i changes) ≡ true

pub fits_here : (start rows : RowsValue) (changes : List RowChange) (i : ℕ) (change : RowChange) → i < length changes → change ≡ get_or changes i change → Stage start rows changes i
    → (fits rows change ≡ true) × Stage start (applied rows change) changes (i + 1)
fits_here start rows changes i change within read s =
    let here = drop_more changes i change within ∙ ap (λ c. c ∷ drop (i + 1) changes) (sym read) in
    let t = two (fits rows change) (all_fit (applied rows change) (drop (i + 1) changes)) (sym (ap (all_fit rows) here) ∙ s.fit) in
    (t.0, record { same = sym (ap (all_applied rows) here) ∙ s.same; fit = t.1 })
