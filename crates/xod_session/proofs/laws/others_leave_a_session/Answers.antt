use Rattle.xod_session.proofs.SessionLemmas.{others_leave}
use Rattle.xod_session.proofs.laws.others_leave_a_session.Goals as goal

pub returns : goal.returns
returns c = others_leave
