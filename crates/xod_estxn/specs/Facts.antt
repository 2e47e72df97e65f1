-- What a transaction's type keeps has one proof at most, which such a fact needs.
use Rattle.std.specs.Prelude.{ℕ, List, Option, Some, None, IfSome}
use Rattle.std.specs.FinMap.{code}
use Rattle.std.specs.Coded.{Coded-set, coded_list, coded_option, coded_ℕ, Unit-prop, le_prop, ×_prop, Π_prop, →_prop}
use Rattle.xod_base.specs.Rows.{RowsValue, rows_code}
use Rattle.xod_base.specs.Views.{Tree}
use Rattle.xod_journal.specs.declared.change.RowChange.{RowChange}
use Rattle.xod_journal.specs.contracts.change.RowChange as change_contracts
use Rattle.xod_overlay.specs.Marks.{Mark, TouchMap}
use Rattle.xod_commit.specs.Blocks.{Fit, FitsTouch}

-- two trees that may be absent, two maps of touches, two lists of changes, two rows are equal in one way at most
pub same_tree : IsSet (Option Tree)
same_tree = Coded-set (coded_option (code (coded_list coded_ℕ) (coded_list coded_ℕ)))

pub same_touches : IsSet TouchMap
same_touches = Coded-set (code (coded_list coded_ℕ) (coded_option (coded_list coded_ℕ)))

pub same_changes : IsSet (List RowChange)
same_changes = Coded-set (coded_list ((change_contracts.the_row).coded))

pub same_rows : IsSet RowsValue
same_rows = Coded-set rows_code

-- a touch fits in one way at most
pub touch_fits : (key : List ℕ) (mark : Mark) → IsProp (FitsTouch key mark)
touch_fits key None = ×_prop le_prop Unit-prop
touch_fits key (Some value) = ×_prop le_prop le_prop

-- what holds of a mark, where there is one, does so in one way at most
at_mark : (o : Option Mark) (P : Mark → Type 0) → ((mark : Mark) → IsProp (P mark)) → IsProp (IfSome o P)
at_mark None P each = Unit-prop
at_mark (Some mark) P each = each mark

-- and so touches fit
pub touches_fit : (touches : ℕ → TouchMap) → IsProp (Fit touches)
touches_fit touches x y =
    let numbered = Π_prop (λ tree. Π_prop (λ key. →_prop (×_prop le_prop le_prop))) in
    let parts = Π_prop (λ tree. Π_prop (λ key. at_mark _ _ (touch_fits key))) in
    λ i. record { numbered = numbered x.numbered y.numbered i; parts = parts x.parts y.parts i }
