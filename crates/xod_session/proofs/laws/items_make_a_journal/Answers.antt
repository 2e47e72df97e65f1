use Rattle.xod_session.proofs.WorldLemmas.{all_taken-played}
use Rattle.xod_session.proofs.laws.items_make_a_journal.Goals as goal

pub returns : goal.returns
returns c = all_taken-played
