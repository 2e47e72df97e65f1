use Rattle.std.proofs.Common.{get_or, refl, sym, ◌∙◌, ap, arith}
use Rattle.std.specs.FinMap.{get}
use Rattle.xod_volume.specs.Files.{Files}
use Rattle.xod_volume.proofs.Lent.{lent_none, lent_more, lent_skip}
use Rattle.xod_volume.proofs.table.FileTable.share.Goals as goal
use Rattle.xod_volume.proofs.table.FileTable.share.Goals.{in-Some+in_ok-insert, in_default}

pub loop-file-init : goal.loop-file-init
loop-file-init c = (c.new-shared.ensures ∙ lent_none c.args.self.now, refl)

pub loop-file-preserved : goal.loop-file-preserved
loop-file-preserved c =
    let list = c.args.list.now in
    let i = c.loop-file.file-index in
    let now = c.loop-file.invariant.1 in
    let there = ap (λ (m : Files). get m (get_or list i 0)) (sym now) ∙ sym c.in_ok-body.ensures.shared in (
      elim c.match-branch-2.branch [
        | in-Some+in_ok-insert w ↦
            w.shared-is ∙ w.in_ok-insert.ensures
            ∙ lent_more list i c.args.self.now c.loop-file.shared w.in-Some.body (omega arith) (there ∙ w.in-Some.is) c.loop-file.invariant.0
        | in_default w ↦
            w.shared-is
            ∙ lent_skip list i c.args.self.now c.loop-file.shared (omega arith) (there ∙ w.in_default.is) c.loop-file.invariant.0
      ],
      c.share_body.ensures.same ∙ now,
    )
