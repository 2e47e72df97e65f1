use Rattle.xod_overlay.proofs.Taken.{restore_view}
use Rattle.xod_overlay.proofs.sorted.TouchedKeys.restore.Goals as goal

pub returns : goal.returns
returns c =
    restore_view c.self.inside.pieces.items c.restore_in.new.pieces.items c.args.key.now c.args.before c.args.self.now
    c.self.invariant c.self.view_is c.restore_in.ensures.touches
