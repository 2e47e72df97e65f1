use Rattle.std.proofs.Common.{IsTrue}
use Rattle.xod_base.specs.Rows.{is_sound}
use Rattle.xod_model.specs.Entries.{rows_of}
use Rattle.xod_model.proofs.RowLemmas.{Stage}
use Rattle.xod_model.proofs.rows.changed.Given as goal

abbrev pub invariant-loop-change : goal.invariant-loop-change
invariant-loop-change l = record {
  stage : Stage (rows_of l.lists) (rows_of l.after) l.changes l.change-index;
  sound : IsTrue (is_sound (rows_of l.after));
}
