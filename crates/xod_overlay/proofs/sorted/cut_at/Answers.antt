use Rattle.std.proofs.Common.{◌∙◌}
use Rattle.xod_overlay.proofs.Pieced.{cut_is}
use Rattle.xod_overlay.proofs.sorted.cut_at.Goals as goal

pub returns : goal.returns
returns c =
    (c.in_ok-insert.ensures {u = tt}).items
    ∙ cut_is c.args.pieces.now.items c.reserve.new.self.items c.args.at c.index_mut.result.now c.cut.new.self c.in_ok-back.back
    c.reserve.ensures.items c.requires c.index_mut.ensures.value (c.in_ok-back.ensures {u = tt}).front (c.in_ok-back.ensures {u = tt}).back
