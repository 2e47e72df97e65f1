use Rattle.std.proofs.Common.{◌∙◌, ◌+◌, sym, ap, subst}
use Rattle.xod_base.specs.Rows.{RowsValue, is_sound}
use Rattle.xod_model.specs.Entries.{rows_of}
use Rattle.xod_model.proofs.RowLemmas.{Stage, fits_here}
use Rattle.xod_model.proofs.rows.changed.Goals as goal

pub loop-change-preserved : goal.loop-change-preserved
loop-change-preserved c =
    let t = fits_here (rows_of c.args.lists.now) (rows_of c.loop-change.after) c.args.changes.now c.loop-change.change-index c.change-item.result c.loop-change-test.true c.change-item.is c.loop-change.invariant.stage in
    let made = c.in_ok-apply.ensures.rows in
    record {
      stage = subst (λ (rows : RowsValue). Stage (rows_of c.args.lists.now) rows c.args.changes.now (c.loop-change.change-index + 1)) (sym made) t.1;
      sound = ap is_sound made ∙ c.changes_keep_sound.ensures (rows_of c.loop-change.after) c.change-item.result c.loop-change.invariant.sound c.in_ok-apply.ensures.valid t.0;
    }
