use Rattle.xod_session.proofs.LegalLemmas.{make_a_world}
use Rattle.xod_session.proofs.laws.sessions_make_a_world.Goals as goal

pub returns : goal.returns
returns c = make_a_world
