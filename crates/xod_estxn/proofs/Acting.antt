-- What a transaction keeps and answers after an act.
use Rattle.std.proofs.Common.{◌≡◌, ℕ, Bool, true, false, cond, List, [], ◌++◌, Option, Some, None, refl, sym, ap, subst, ◌∙◌}
use Rattle.std.specs.Prelude.{◌≢◌, IsTrue, Ok}
use Rattle.std.specs.FinMap.{empty}
use Rattle.std.specs.List.{list_all}
use Rattle.std.specs.Option.{option_map, unwrap_or}
use Rattle.xod_base.specs.declared.query.Act.{Act}
use Rattle.xod_base.specs.declared.query.Mode.{Mode}
use Rattle.xod_base.specs.declared.query.Mode.TheVariants.{Ordinary, ReadOnly, Exclusive}
use Rattle.xod_base.specs.Rows.{RowsValue, no_rows}
use Rattle.xod_base.specs.Views.{Tree, Trees}
use Rattle.xod_journal.specs.declared.change.RowChange.{RowChange}
use Rattle.xod_journal.specs.Changes.{act_answer, act_outcome, all_applied, expansion_of, has_names, is_change, outcome_of}
use Rattle.xod_journal.specs.Locals.{Acts, held_of}
use Rattle.xod_journal.specs.Txns.{OpenTxn, txn_acted}
use Rattle.xod_overlay.specs.Laws.{UntouchedIsBelow}
use Rattle.xod_overlay.specs.Marks.{TouchMap, all_touching, overlaid, overlaid_trees}
use Rattle.xod_tables.specs.Reading.{rows_of}
use Rattle.xod_tables.specs.Tables.{AreTables}
use Rattle.xod_tables.specs.Writes.{after_writes}
use Rattle.xod_tables.proofs.CallerLemmas.{not_none, tables_of_rows}
use Rattle.xod_writes.specs.Changes.{all_writes}
use Rattle.xod_acts.specs.declared.plan.Plan.{Plan}
use Rattle.xod_acts.specs.Plans.{IsPlan}
use Rattle.xod_estxn.specs.Laws.{MoreFit, NoneFit, TxnLaws}
use Rattle.xod_estxn.specs.Txns.{IsKept, IsOver, base_rows, txn_over}
use Rattle.xod_estxn.proofs.Changes.{all_applied-append, all_fit-append, all_touching-fit, all_touching-none, all_touching-same, both_none}

-- ---- the beginning

pub nothing_kept : NoneFit → (own : List RowChange) (touches : ℕ → TouchMap) → own ≡ [] → ((tree : ℕ) → touches tree ≡ empty) → IsKept own touches
nothing_kept none own touches unchanged untouched = record { fit = none touches untouched; alike = ((λ _. untouched), λ _. unchanged) }

-- no touches show nothing
untouched_trees : UntouchedIsBelow → (touches : ℕ → TouchMap) (trees : Trees) → ((tree : ℕ) → touches tree ≡ empty) → overlaid_trees touches trees ≡ trees
untouched_trees below touches trees none = λ i tree. at tree (trees tree) i
  where
    at : (tree : ℕ) (o : Option Tree) → option_map (λ base. overlaid base (touches tree)) o ≡ o
    at tree None = refl
    at tree (Some base) = ap (λ (t : TouchMap). Some (overlaid base t)) (none tree) ∙ ap Some (below base)

-- the rows of a base that has some
base_are : (trees : Trees) (kinds : List (List ℕ)) (o : Option RowsValue) → rows_of trees ≡ o → option_map (λ rows. rows.types) o ≡ Some kinds
    → AreTables trees (unwrap_or o no_rows)
base_are trees kinds None is there = absurd (not_none kinds (sym there))
base_are trees kinds (Some rows) is there = tables_of_rows trees rows is

pub nothing_over : UntouchedIsBelow → (trees : Trees) (kinds : List (List ℕ)) (own : List RowChange) (touches : ℕ → TouchMap) → own ≡ []
    → ((tree : ℕ) → touches tree ≡ empty)
    → option_map (λ rows. rows.types) (rows_of trees) ≡ Some kinds → IsOver trees own touches
nothing_over below trees kinds own touches unchanged untouched begun =
    let base = base_are trees kinds (rows_of trees) refl begun in
    let shown = untouched_trees below touches trees untouched in
    subst (λ (list : List RowChange). IsOver trees list touches) (sym unchanged)
    (record {
      base = base;
      fits = record { began = refl; fit = refl; now = refl };
      seen = subst (λ (t : Trees). AreTables t (base_rows trees)) (sym shown) base;
    })

-- ---- one act more

-- what a plan makes of what a transaction keeps
pub kept-more : MoreFit → (own : List RowChange) (touches : ℕ → TouchMap) (plan : Plan) → IsKept own touches → IsPlan plan
    → IsKept (own ++ plan.changes) (all_touching touches plan.writes)
kept-more one own touches plan kept planned = record {
  fit = all_touching-fit one touches plan.writes kept.fit planned.fit;
  alike = (none, back);
}
  where
    none : own ++ plan.changes ≡ [] → (tree : ℕ) → all_touching touches plan.writes tree ≡ empty
    none is tree =
        let both = both_none own plan.changes is in
        all_touching-same touches plan.writes (planned.alike.0 both.1) tree ∙ kept.alike.0 both.0 tree

    back : ((tree : ℕ) → all_touching touches plan.writes tree ≡ empty) → own ++ plan.changes ≡ []
    back is =
        let both = all_touching-none touches plan.writes is in
        λ i. kept.alike.1 both.0 i ++ planned.alike.1 both.1 i

module _ (laws : TxnLaws) (trees : Trees) (own : List RowChange) (touches : ℕ → TouchMap) (act : Act)
    (over : IsOver trees own touches) (names : IsTrue (has_names act)) where
  abbrev seen_rows : RowsValue
  seen_rows = all_applied (base_rows trees) own

  abbrev after_all : List RowChange → Trees
  after_all changes = after_writes (overlaid_trees touches trees) (all_writes seen_rows changes)

  pub over-more : (plan : Plan) → IsTrue (list_all is_change plan.changes) → expansion_of seen_rows act ≡ Ok plan.changes
      → plan.writes ≡ all_writes seen_rows plan.changes
      → IsOver trees (own ++ plan.changes) (all_touching touches plan.writes)
  over-more plan are expands writes =
      let fit = laws.fit seen_rows act plan.changes (laws.named.0 seen_rows over.seen.sound) names expands in
      let now = all_applied-append (base_rows trees) own plan.changes in
      let shown : overlaid_trees (all_touching touches plan.writes) trees ≡ after_all plan.changes =
      laws.show touches trees plan.writes ∙ ap (after_writes (overlaid_trees touches trees)) writes in
      record {
        base = over.base;
        fits = record { began = refl; fit = all_fit-append (base_rows trees) own plan.changes over.fits.fit fit; now = refl };
        seen = subst (λ (t : Trees). AreTables t (all_applied (base_rows trees) (own ++ plan.changes))) (sym shown)
            (subst (AreTables (after_all plan.changes)) (sym now) (laws.follow (overlaid_trees touches trees) seen_rows plan.changes over.seen are fit));
      }

-- ---- what an act answers

-- a mode that writes asks the rows
outcome-writes : (mode : Mode) → mode ≢ ReadOnly → (rows : RowsValue) (act : Act) → outcome_of mode rows act ≡ expansion_of rows act
outcome-writes ReadOnly writes rows act = absurd (writes refl)
outcome-writes Ordinary writes rows act = refl
outcome-writes Exclusive writes rows act = refl

-- an act that was made
pub acts-made : {tells : Bool} (act : Act) (old new : OpenTxn) → old.mode ≢ ReadOnly → (changes : List RowChange) → new ≡ txn_acted old (Ok changes)
    → (IsTrue tells → expansion_of old.rows act ≡ Ok changes) → Acts tells act old new (Ok (act_answer changes))
acts-made act old new writes changes is expands = record {
  made = record { changes = changes; writes = writes; grown = ap held_of is; answer_is = refl };
  refused = tt;
  reads_only = λ is. absurd (cc);
  answer = λ told. ap act_outcome (outcome-writes old.mode writes old.rows act ∙ expands told);
  changed = λ told. is ∙ ap (txn_acted old) (sym (outcome-writes old.mode writes old.rows act ∙ expands told));
}

-- a transaction over the same trees, with changes more
pub txn-grows : (mode : Mode) {base now : ℕ} {trees seen : Trees} (own more changes : List RowChange) → now ≡ base → seen ≡ trees → more ≡ own ++ changes
    → txn_over mode now seen more ≡ txn_acted (txn_over mode base trees own) (Ok changes)
txn-grows mode {trees = trees} own more changes commit same grown =
    let rows = (λ i. all_applied (base_rows (same i)) (grown i)) ∙ all_applied-append (base_rows trees) own changes in
    λ i. record { mode = mode; base = commit i; begun = base_rows (same i); own = grown i; rows = rows i }

-- ---- either outcome of keeping

-- what holds without changes more and with them holds of what was kept
pub either_kept : (P : List RowChange → (ℕ → TouchMap) → Type 0) (made : Bool) {own more changes : List RowChange} {touches later now : ℕ → TouchMap}
    → changes ≡ cond made more own → now ≡ cond made later touches → P own touches → P more later → P changes now
either_kept P true {more = more} {now = now} list map without with_them =
    subst (λ (cs : List RowChange). P cs now) (sym list) (subst (P more) (sym map) with_them)
either_kept P false {own = own} {now = now} list map without with_them =
    subst (λ (cs : List RowChange). P cs now) (sym list) (subst (P own) (sym map) without)
