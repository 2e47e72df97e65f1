-- Changes and touches that come after others.
use Rattle.std.proofs.Common.{◌≡◌, ℕ, true, cond, List, [], ◌∷◌, ◌++◌, Some, refl, sym, ap, ◌∙◌}
use Rattle.std.specs.Prelude.{◌&&◌}
use Rattle.std.specs.Cmp.{first_so, second_so, eq_by_cmp_equiv, nat_eq_equiv}
use Rattle.std.specs.Cmp.Lexicographic.{nat_list_cmp_total}
use Rattle.std.specs.FinMap.{empty, get, get-empty, get-insert, insert}
use Rattle.std.specs.List.{AllByRecursion}
use Rattle.xod_base.specs.Rows.{RowsValue}
use Rattle.xod_base.specs.Values.{bytes_cmp}
use Rattle.xod_journal.specs.declared.change.RowChange.{RowChange}
use Rattle.xod_journal.specs.Changes.{all_applied, all_fit, applied, fits}
use Rattle.xod_overlay.specs.declared.write.Write.{Write}
use Rattle.xod_overlay.specs.Marks.{Mark, TouchMap, all_touching, touching}
use Rattle.xod_commit.specs.Blocks.{Fit}
use Rattle.xod_acts.specs.Plans.{FitsWrite}
use Rattle.xod_tables.proofs.CallerLemmas.{not_none}
use Rattle.xod_estxn.specs.Laws.{MoreFit}

-- the rows after changes and then others
pub all_applied-append : (rows : RowsValue) (own more : List RowChange) → all_applied rows (own ++ more) ≡ all_applied (all_applied rows own) more
all_applied-append rows [] more = refl
all_applied-append rows (change ∷ own) more = all_applied-append (applied rows change) own more

-- changes fit, and then others
pub all_fit-append : (rows : RowsValue) (own more : List RowChange) → all_fit rows own ≡ true → all_fit (all_applied rows own) more ≡ true
    → all_fit rows (own ++ more) ≡ true
all_fit-append rows [] more own_fit more_fit = more_fit
all_fit-append rows (change ∷ own) more own_fit more_fit =
    let later = all_fit-append (applied rows change) own more (second_so (fits rows change) (all_fit (applied rows change) own) own_fit) more_fit in
    λ i. first_so (fits rows change) (all_fit (applied rows change) own) own_fit i && later i

-- no changes are none and then none
pub both_none : {A : Type 0} (own more : List A) → own ++ more ≡ [] → (own ≡ []) × (more ≡ [])
both_none [] more is = (refl, is)
both_none (x ∷ own) more is = absurd (cc)

-- touches that may be committed, and writes that fit
pub all_touching-fit : MoreFit → (touches : ℕ → TouchMap) (writes : List Write) → Fit touches → AllByRecursion FitsWrite writes
    → Fit (all_touching touches writes)
all_touching-fit one touches [] fit each = fit
all_touching-fit one touches (write ∷ more) fit each =
    all_touching-fit one (touching touches write.tree write.key write.value) more
    (one touches write.tree write.key write.value fit each.0.tree each.0.parts) each.1

-- a touched key is not taken back
touch_stands : (touches : TouchMap) (key : List ℕ) (mark : Mark) → insert touches key mark ≡ empty → ⊥
touch_stands touches key mark is =
    not_none mark (sym (get-insert nat_list_cmp_total touches key mark key
    ∙ ap (λ b. cond b (Some mark) (get touches key)) ((eq_by_cmp_equiv nat_list_cmp_total).refl key))
    ∙ ap (λ (t : TouchMap). get t key) is ∙ get-empty bytes_cmp key)

touched_there : (touches : ℕ → TouchMap) (write : Write) → ((tree : ℕ) → touching touches write.tree write.key write.value tree ≡ empty) → ⊥
touched_there touches write none =
    touch_stands (touches write.tree) write.key write.value
    (sym (ap (λ b. cond b (insert (touches write.tree) write.key write.value) (touches write.tree)) (nat_eq_equiv.refl write.tree)) ∙ none write.tree)

-- so no key is touched only where none was, and nothing was written
pub all_touching-none : (touches : ℕ → TouchMap) (writes : List Write) → ((tree : ℕ) → all_touching touches writes tree ≡ empty)
    → ((tree : ℕ) → touches tree ≡ empty) × (writes ≡ [])
all_touching-none touches [] none = (none, refl)
all_touching-none touches (write ∷ more) none =
    absurd (touched_there touches write (all_touching-none (touching touches write.tree write.key write.value) more none).0)

-- nothing was written: the touches are the same
pub all_touching-same : (touches : ℕ → TouchMap) (writes : List Write) → writes ≡ [] → (tree : ℕ) → all_touching touches writes tree ≡ touches tree
all_touching-same touches writes is tree = ap (λ ws. all_touching touches ws tree) is
