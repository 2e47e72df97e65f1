use Rattle.xod_session.proofs.AgreeLemmas.{sessions-agree}
use Rattle.xod_session.proofs.laws.sessions_agree.Goals as goal

pub returns : goal.returns
returns c = sessions-agree c.expansions_fit.ensures c.names_stay.ensures c.same_is_equal.ensures
