use Rattle.std.proofs.Common.{◌≡◌, drop}
use Rattle.xod_cache.specs.Kinds.{kinds_after}
use Rattle.xod_cache.proofs.adapter.Adapter.follow.Given as goal

abbrev pub invariant-loop-change : goal.invariant-loop-change
invariant-loop-change l = kinds_after l.self.names (drop l.change-index l.changes) ≡ kinds_after l.fn.self.names l.changes
