use Rattle.xod_session.proofs.SessionLemmas.{session_after-append}
use Rattle.xod_session.proofs.laws.sessions_go_on.Goals as goal

pub returns : goal.returns
returns c = session_after-append
