use Rattle.xod_play.proofs.FinishLemmas.{closed-pop}
use Rattle.xod_play.proofs.finish.let_all_go.Goals as goal

pub let_go-requires : goal.let_go-requires
let_go-requires g c = (closed-pop c.loop-player.players.items c.pop.new.self.items c.in-Some.player c.in-Some.ensures.items c.loop-player.invariant).1

pub loop-player-preserved : goal.loop-player-preserved
loop-player-preserved g c = (closed-pop c.loop-player.players.items c.pop.new.self.items c.in-Some.player c.in-Some.ensures.items c.loop-player.invariant).0
