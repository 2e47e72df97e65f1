use Rattle.xod_journal.proofs.JournalLemmas.{opening-told}
use Rattle.xod_journal.proofs.laws.rows_are_those_of_the_base.Goals as goal

pub returns : goal.returns
returns c = opening-told
