use Rattle.std.proofs.Common.{◌≡◌, drop}
use Rattle.xod_session.specs.Sessions.{is_front}
use Rattle.xod_session.proofs.course.is_front.Given as goal

abbrev pub invariant-loop-statement : goal.invariant-loop-statement
invariant-loop-statement l = is_front l.line (drop l.statement-index l.statements) ≡ is_front l.line l.statements
