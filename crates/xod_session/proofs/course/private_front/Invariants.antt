use Rattle.std.proofs.Common.{◌≡◌, ◌+◌, drop}
use Rattle.xod_session.specs.Sessions.{private_count}
use Rattle.xod_session.proofs.course.private_front.Given as goal

abbrev pub invariant-loop-count : goal.invariant-loop-count
invariant-loop-count l = l.count + private_count (drop l.count l.statements) ≡ private_count l.statements
