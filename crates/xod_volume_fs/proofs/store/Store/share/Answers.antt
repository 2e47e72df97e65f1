use Rattle.std.proofs.Common.{arith}
use Rattle.xod_volume_fs.specs.Kept.{kept_by}
use Rattle.xod_volume_fs.proofs.Keeping.{lends_none, lends_more}
use Rattle.xod_volume_fs.proofs.store.Store.share.Goals as goal

pub loop-file-init : goal.loop-file-init
loop-file-init g c = (lends_none _ _ c.new-table.ensures, c.find.ensures.kept)

pub loop-file-preserved : goal.loop-file-preserved
loop-file-preserved g c = (
  lends_more c.args.list.now c.loop-file.file-index (kept_by c.loop-file.self.folder) _ _ _ c.in_ok-body.body (omega arith)
      c.share_one.ensures.kept c.in_ok-body.ensures.shared c.in_ok-insert.ensures c.loop-file.invariant.0,
  λ file bytes e. c.share_one.ensures.kept file bytes (c.loop-file.invariant.1 file bytes e),
)
