-- What an act changes over trees that are the tables of rows, and what that writes into them.
use Rattle.std.specs.Prelude.{◌≡◌, ◌↔◌, Bool, IsTrue, List, [], Result, Ok, Err, IfOk}
use Rattle.std.specs.List.{AllByRecursion}
use Rattle.xod_base.specs.declared.answer.StmtError.{StmtError}
use Rattle.xod_base.specs.declared.answer.StmtError.TheVariants.{ReadOnly}
use Rattle.xod_base.specs.Rows.{RowsValue}
use Rattle.xod_base.specs.Views.{Trees}
use Rattle.xod_journal.specs.declared.change.RowChange.{RowChange}
use Rattle.xod_journal.specs.Locals.{IsExpected}
use Rattle.xod_overlay.specs.declared.write.Write.{Write}
use Rattle.xod_commit.specs.Blocks.{IsTreeNumber, FitsTouch}
use Rattle.xod_tables.specs.Tables.{AreTables}
use Rattle.xod_writes.specs.Changes.{all_writes}
use Rattle.xod_acts.specs.declared.plan.Plan.{Plan}

-- the changes of a plan, or its refusal
abbrev pub changes_of : Result Plan StmtError → Result (List RowChange) StmtError
changes_of (Ok plan) = Ok plan.changes
changes_of (Err error) = Err error

-- a write goes into a tree of a store, and its key and its value are no longer than a part of a record can be
pub record FitsWrite (write : Write) : Type 0 where
  pub tree : IsTreeNumber write.tree
  pub parts : FitsTouch write.key write.value

-- A plan can be made over any trees: each write fits, and there are writes exactly where there are changes.
pub record IsPlan (plan : Plan) : Type 0 where
  pub fit : AllByRecursion FitsWrite plan.writes
  pub alike : (plan.changes ≡ []) ↔ (plan.writes ≡ [])

-- What a call plans. Nothing is refused for the mode, which it does not know. Where the view tells and its trees are the
-- tables of rows, the changes are those that the rows give, or the refusal is; the writes are what these changes write; and
-- nothing is damaged.
pub record Plans (tells : Bool) (trees : Trees) (wanted : RowsValue → Result (List RowChange) StmtError) (result : Result Plan StmtError) : Type 0 where
  pub plan : IfOk result IsPlan
  pub any_mode : result ≡ Err ReadOnly → ⊥
  pub changes : IsTrue tells → (rows : RowsValue) → AreTables trees rows → IsExpected (wanted rows) (changes_of result)
  pub writes : IsTrue tells → (rows : RowsValue) → AreTables trees rows → IfOk result (λ plan. plan.writes ≡ all_writes rows plan.changes)
